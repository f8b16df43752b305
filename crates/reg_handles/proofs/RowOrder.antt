-- Entries in the order of their numbers, and what a change of the map makes of them.
use Rattle.std.proofs.Common.{◌≡◌, ℕ, ◌+◌, ◌<◌, Bool, true, false, cond, nat_eq, T, ◌&&◌, List, [], ◌∷◌, ◌++◌, length, Some, None, is_some, refl, sym, ap, subst, ◌∙◌, arith}
use Rattle.std.specs.List.{All, AllByRecursion, IsDistinct}
use Rattle.std.specs.List.Sorted.{IsStrictlySortedBy}
use Rattle.std.specs.Ordering.{nat_cmp, is_eq, is_lt, eq_by_cmp}
use Rattle.std.specs.declared.cmp.Ordering.{Ordering}
use Rattle.std.specs.declared.cmp.Ordering.TheVariants.{Less, Equal, Greater}
use Rattle.std.specs.BTreeMap.{is_at}
use Rattle.std.specs.Map.{lookup, remove_entry, keys_of}
use Rattle.std.specs.Cmp.{nat_cmp_total, eq_by_cmp_equiv}
use Rattle.std.specs.FinMap.{from_entries, entries, entries_sorted, find, is_sorted, len, get-entries, get-from_entries, nat_cmp-IsAntisymmetric, len-insert, len-entries, len-empty, contains_key}
use Rattle.std.specs.FinMap.Entries.{below_all, find-append, same_entries}
use Rattle.std.proofs.lemmas.Bool.Decides.{nat_tests}
use Rattle.std.proofs.lemmas.List.Elements.{recursion_from_All}
use Rattle.std.proofs.lemmas.Map.{lookup-remove_entry}
use Rattle.std.proofs.lemmas.Map.Keys.{IsDistinct-from_sorted, IsDistinct-head, IsDistinct-tail}
use Rattle.reg_handles.specs.Internal.OrderedRows.{ordered}

-- ---- orders

less_of : (o : Ordering) → T (is_lt o) → o ≡ Less
less_of Less p = refl
less_of Equal p = absurd p
less_of Greater p = absurd p

both : (a b : Bool) → T a → T b → T (a && b)
both true b p q = q
both false b p q = p

first : (a b : Bool) → T (a && b) → T a
first true b p = tt
first false b p = p

second : (a b : Bool) → T (a && b) → T b
second true b p = p
second false b p = absurd p

same_test : (q k : ℕ) → nat_eq q k ≡ is_at (nat_cmp q) k
same_test q k = grind (arith, nat_tests)

module _ {X : Type 0} where
  below_from : (x : ℕ) (es : List (ℕ × X)) → T (below_all nat_cmp x es) → AllByRecursion (λ y. nat_cmp x y ≡ Less) (keys_of es)
  below_from x [] h = tt
  below_from x (e ∷ es) h = (less_of _ (first _ _ h), below_from x es (second _ _ h))

  rises_from : (es : List (ℕ × X)) → T (is_sorted nat_cmp es) → IsStrictlySortedBy nat_cmp (keys_of es)
  unfolding IsStrictlySortedBy
  rises_from [] h = tt
  rises_from (e ∷ es) h = (below_from e.0 es (first _ _ h), rises_from es (second _ _ h))

  below_to : (x : ℕ) (es : List (ℕ × X)) → AllByRecursion (λ y. nat_cmp x y ≡ Less) (keys_of es) → T (below_all nat_cmp x es)
  below_to x [] h = tt
  below_to x (e ∷ es) h = both _ _ (subst (λ r. T (is_lt r)) (sym h.0) tt) (below_to x es h.1)

  rises_to : (es : List (ℕ × X)) → IsStrictlySortedBy nat_cmp (keys_of es) → T (is_sorted nat_cmp es)
  unfolding IsStrictlySortedBy
  rises_to [] h = tt
  rises_to (e ∷ es) h = both _ _ (below_to e.0 es h.0) (rises_to es h.1)

  pub rises_ordered : (es : List (ℕ × X)) → IsStrictlySortedBy nat_cmp (keys_of (ordered es))
  unfolding ordered
  rises_ordered es = rises_from (entries (from_entries {R = nat_cmp} es)) (entries_sorted (from_entries {R = nat_cmp} es))

  -- ---- look-ups

  find_is : (q : ℕ) (es : List (ℕ × X)) → find nat_cmp q es ≡ lookup (is_at (nat_cmp q)) es
  find_is q [] = refl
  find_is q (e ∷ es) = ap (cond (is_at (nat_cmp q) e.0) (Some e.1)) (find_is q es)

  by_number : (q : ℕ) (es : List (ℕ × X)) → lookup (is_at (nat_cmp q)) es ≡ lookup (nat_eq q) es
  by_number q [] = refl
  by_number q (e ∷ es) = ap (λ b. cond b (Some e.1) (lookup (is_at (nat_cmp q)) es)) (sym (same_test q e.0)) ∙ ap (cond (nat_eq q e.0) (Some e.1)) (by_number q es)

  pub lookup_ordered : (q : ℕ) (es : List (ℕ × X)) → lookup (is_at (nat_cmp q)) (ordered es) ≡ lookup (nat_eq q) es
  unfolding ordered
  lookup_ordered q es =
      sym (find_is q (entries (from_entries {R = nat_cmp} es))) ∙ sym (get-entries (from_entries {R = nat_cmp} es) q) ∙ get-from_entries nat_cmp_total es q ∙ find_is q es ∙ by_number q es

  same_rows : (m fs : List (ℕ × X)) → IsStrictlySortedBy nat_cmp (keys_of fs) → ((q : ℕ) → lookup (nat_eq q) m ≡ lookup (is_at (nat_cmp q)) fs) → ordered m ≡ fs
  same_rows m fs rises same =
      same_entries nat_cmp nat_cmp_total nat_cmp-IsAntisymmetric (ordered m) fs (rises_to (ordered m) (rises_ordered m)) (rises_to fs rises)
      (λ q. find_is q (ordered m) ∙ lookup_ordered q m ∙ same q ∙ sym (find_is q fs))

  -- ---- the same entries

  pub ordered_same : (m n : List (ℕ × X)) → ((q : ℕ) → lookup (nat_eq q) n ≡ lookup (nat_eq q) m) → ordered n ≡ ordered m
  ordered_same m n same = same_rows n (ordered m) (rises_ordered m) (λ q. same q ∙ sym (lookup_ordered q m))

  -- ---- an entry more

  all_push : (x k : ℕ) (v : X) (es : List (ℕ × X)) → AllByRecursion (λ y. nat_cmp x y ≡ Less) (keys_of es) → nat_cmp x k ≡ Less → AllByRecursion (λ y. nat_cmp x y ≡ Less) (keys_of (es ++ (k, v) ∷ []))
  all_push x k v [] all less = (less, tt)
  all_push x k v (e ∷ es) all less = (all.0, all_push x k v es all.1 less)

  rises_push : (k : ℕ) (v : X) (es : List (ℕ × X)) → IsStrictlySortedBy nat_cmp (keys_of es) → AllByRecursion (λ (e : ℕ × X). e.0 < k) es → IsStrictlySortedBy nat_cmp (keys_of (es ++ (k, v) ∷ []))
  unfolding IsStrictlySortedBy
  rises_push k v [] rises below = (tt, tt)
  rises_push k v (e ∷ es) rises below = (all_push e.0 k v es rises.0 (grind (arith, nat_tests, below.0)), rises_push k v es rises.1 below.1)

  none_above : (k : ℕ) (es : List (ℕ × X)) → AllByRecursion (λ (e : ℕ × X). e.0 < k) es → find nat_cmp k es ≡ None
  none_above k [] below = refl
  none_above k (e ∷ es) below =
      let other : is_eq (nat_cmp k e.0) ≡ false = grind (arith, nat_tests, below.0) in
      rw other (none_above k es below.1)

  pub ordered_push : (m n : List (ℕ × X)) (k : ℕ) (v : X) → All (λ (e : ℕ × X). e.0 < k) (ordered m) → ((q : ℕ) → lookup (nat_eq q) n ≡ cond (nat_eq k q) (Some v) (lookup (nat_eq q) m))
      → ordered n ≡ ordered m ++ (k, v) ∷ []
  ordered_push m n k v above puts =
      let below = recursion_from_All _ (ordered m) above in
      same_rows n (ordered m ++ (k, v) ∷ []) (rises_push k v (ordered m) (rises_ordered m) below) (λ q.
      let turned : nat_eq k q ≡ eq_by_cmp nat_cmp q k = grind (arith, nat_tests) in
      puts q ∙ ap (λ b. cond b (Some v) (lookup (nat_eq q) m)) turned ∙ ap (cond (eq_by_cmp nat_cmp q k) (Some v)) (sym (lookup_ordered q m) ∙ sym (find_is q (ordered m)))
      ∙ sym (find-append nat_cmp nat_cmp_total (ordered m) k v q (none_above k (ordered m) below)) ∙ find_is q (ordered m ++ (k, v) ∷ []))

  -- ---- an entry less

  all_less : (x : ℕ) (test : ℕ → Bool) (es : List (ℕ × X)) → AllByRecursion (λ y. nat_cmp x y ≡ Less) (keys_of es) → AllByRecursion (λ y. nat_cmp x y ≡ Less) (keys_of (remove_entry test es))
  all_less x test [] all = tt
  all_less x test (e ∷ es) all = by (test e.0) (all_less x test es all.1)
    where
      by : (b : Bool) → AllByRecursion (λ y. nat_cmp x y ≡ Less) (keys_of (remove_entry test es)) → AllByRecursion (λ y. nat_cmp x y ≡ Less) (keys_of (cond b es (e ∷ remove_entry test es)))
      by true rest = all.1
      by false rest = (all.0, rest)

  rises_less : (test : ℕ → Bool) (es : List (ℕ × X)) → IsStrictlySortedBy nat_cmp (keys_of es) → IsStrictlySortedBy nat_cmp (keys_of (remove_entry test es))
  unfolding IsStrictlySortedBy
  rises_less test [] rises = tt
  rises_less test (e ∷ es) rises = by (test e.0) (rises_less test es rises.1)
    where
      by : (b : Bool) → IsStrictlySortedBy nat_cmp (keys_of (remove_entry test es)) → IsStrictlySortedBy nat_cmp (keys_of (cond b es (e ∷ remove_entry test es)))
      by true rest = rises.1
      by false rest = (all_less e.0 test es rises.0, rest)

  pub ordered_less : (m n : List (ℕ × X)) (k : ℕ) → ((q : ℕ) → lookup (nat_eq q) n ≡ cond (nat_eq k q) None (lookup (nat_eq q) m)) → ordered n ≡ remove_entry (is_at (nat_cmp k)) (ordered m)
  ordered_less m n k takes =
      let laws = eq_by_cmp_equiv nat_cmp_total in
      same_rows n (remove_entry (is_at (nat_cmp k)) (ordered m)) (rises_less (is_at (nat_cmp k)) (ordered m) (rises_ordered m)) (λ q.
      takes q ∙ ap (λ b. cond b None (lookup (nat_eq q) m)) (same_test k q) ∙ ap (cond (is_at (nat_cmp k) q) None) (sym (lookup_ordered q m))
      ∙ sym (lookup-remove_entry laws (is_at (nat_cmp k)) (laws.congr k) q (ordered m) (IsDistinct-from_sorted nat_cmp (keys_of (ordered m)) (rises_ordered m))))

  -- ---- how many

  missing : (k : ℕ) (es : List (ℕ × X)) → AllByRecursion (λ y. nat_eq k y ≡ false) (keys_of es) → lookup (nat_eq k) es ≡ None
  missing k [] none = refl
  missing k (e ∷ es) none = rw none.0 (missing k es none.1)

  pub length_ordered : (es : List (ℕ × X)) → IsDistinct nat_eq (keys_of es) → length (ordered es) ≡ length es
  unfolding ordered
  length_ordered [] distinct = sym (len-entries (from_entries {R = nat_cmp} [])) ∙ len-empty nat_cmp X
  length_ordered (e ∷ es) distinct =
      let m = from_entries {R = nat_cmp} es in
      let absent : contains_key m e.0 ≡ false = ap is_some (get-from_entries nat_cmp_total es e.0 ∙ find_is e.0 es ∙ by_number e.0 es ∙
      missing e.0 es (IsDistinct-head nat_eq e.0 (keys_of es) distinct)) in
      let rest : len m ≡ length es = len-entries m ∙ length_ordered es (IsDistinct-tail nat_eq e.0 (keys_of es) distinct) in
      let grown : len (from_entries {R = nat_cmp} (e ∷ es)) ≡ len m + 1 = len-insert nat_cmp_total m e.0 e.1 ∙ ap (λ b. cond b (len m) (len m + 1)) absent in
      sym (len-entries (from_entries {R = nat_cmp} (e ∷ es))) ∙ grown ∙ omega (arith, rest)

pub ordered_none : {X : Type 0} → ordered {X = X} [] ≡ []
unfolding IsStrictlySortedBy
ordered_none = same_rows [] [] tt (λ q. refl)
