-- A name that was met by its folded copy.
use Rattle.std.proofs.Common.{◌≡◌, ℕ, Bool, true, false, not, ◌||◌, List, [], ◌∷◌, Vec, refl, sym, ap, ◌∙◌, subst}
use Rattle.std.specs.List.{list_any}
use Rattle.std.specs.Ordering.{is_eq, nat_cmp, ordering_then, match_ordering}
use Rattle.std.specs.Cmp.{nat_cmp_is}
use Rattle.std.specs.declared.cmp.Ordering.{Ordering}
use Rattle.std.specs.declared.cmp.Ordering.TheVariants.{Less, Equal, Greater}
use Rattle.std.specs.Cmp.Lexicographic.{slice_cmp}
use Rattle.std.specs.BTreeMap.{is_at}
use Rattle.std.specs.BTreeSet.{insert_key}
use Rattle.std.proofs.lemmas.Bool.{false≢true}
use Rattle.std.proofs.lemmas.Cmp.{eq_by_cmp_equiv, nat_list_cmp_total}
use Rattle.reg_names.specs.Names.{folded}
use Rattle.reg_names.proofs.NameOrders.{same_from_Equal}
use Rattle.reg_heap.specs.Members.{same_name}
use Rattle.reg_tree_image.specs.Internal.NamesMet.{is_met, hashed_cmp, text_hash}

pub or-turned : (a b : Bool) → (a || b) ≡ (b || a)
or-turned true true = refl
or-turned true false = refl
or-turned false true = refl
or-turned false false = refl

or-grouped : (a b c : Bool) → (a || (b || c)) ≡ ((a || b) || c)
or-grouped true b c = refl
or-grouped false b c = refl

-- a test of the keys of a set, with one more that was none of them
any-inserted : {K : Type 0} (cmp : K → K → Ordering) (test : K → Bool) (k : K) (ks : List K) → list_any (is_at (cmp k)) ks ≡ false →
    list_any test (insert_key cmp ks k) ≡ (list_any test ks || test k)
any-inserted cmp test k [] n = or-turned (test k) false
any-inserted cmp test k (x ∷ xs) n = by (cmp k x) n (any-inserted cmp test k xs)
  where
    by : (o : Ordering) → (is_eq o || list_any (is_at (cmp k)) xs) ≡ false →
        (list_any (is_at (cmp k)) xs ≡ false → list_any test (insert_key cmp xs k) ≡ (list_any test xs || test k)) →
        list_any test (match_ordering o (k ∷ x ∷ xs) (x ∷ xs) (x ∷ insert_key cmp xs k)) ≡ ((test x || list_any test xs) || test k)
    by Less e h = or-turned (test k) (test x || list_any test xs)
    by Equal e h = absurd (false≢true (sym e))
    by Greater e h = ap (λ b. test x || b) (h e) ∙ or-grouped (test x) (list_any test xs) (test k)

-- a text behind its hash is told from others as the text is
same-hashed : (hash : List ℕ → ℕ) (x y : List ℕ) →
    is_eq (ordering_then (nat_cmp (hash x) (hash y)) (slice_cmp nat_cmp x y)) ≡ is_eq (slice_cmp nat_cmp x y)
same-hashed hash x y = by (slice_cmp nat_cmp x y) refl
  where
    less : (o : Ordering) → is_eq (ordering_then o Less) ≡ false
    less Less = refl
    less Equal = refl
    less Greater = refl

    greater : (o : Ordering) → is_eq (ordering_then o Greater) ≡ false
    greater Less = refl
    greater Equal = refl
    greater Greater = refl

    by : (o : Ordering) → slice_cmp nat_cmp x y ≡ o → is_eq (ordering_then (nat_cmp (hash x) (hash y)) o) ≡ is_eq o
    by Less e = less (nat_cmp (hash x) (hash y))
    by Equal e = ap (λ o. is_eq (ordering_then o Equal))
        (subst (λ z. nat_cmp (hash x) (hash z) ≡ Equal) (same_from_Equal x y e) (sym (nat_cmp_is (hash x) (hash x) Equal refl)))
    by Greater e = greater (nat_cmp (hash x) (hash y))

-- one more name met, by its folded copy behind its hash, which the set didn't have
pub one-more : {Y : Type 0} (name : List ℕ) (old new : List (ℕ × Vec ℕ Y)) (hash : ℕ) (copy : Vec ℕ Y) → copy.items ≡ folded name →
    hash ≡ text_hash copy.items →
    true ≡ not (list_any (is_at (λ k. ordering_then (nat_cmp hash k.0) (slice_cmp nat_cmp copy.items k.1.items))) old) →
    new ≡ insert_key (λ x y. ordering_then (nat_cmp x.0 y.0) (slice_cmp nat_cmp x.1.items y.1.items)) old (hash, copy) →
    (other : List ℕ) → is_met new other ≡ (is_met old other || same_name name other)
one-more {Y} name old new hash copy copied hashed e i other =
    ap (λ met. is_met met other) i ∙
    (any-inserted (λ (x y : ℕ × Vec ℕ Y). ordering_then (nat_cmp x.0 y.0) (slice_cmp nat_cmp x.1.items y.1.items))
    (λ (k : ℕ × Vec ℕ Y). is_eq (hashed_cmp (folded other) k))
    (hash, copy) old
    (untrue (list_any (is_at (λ (k : ℕ × Vec ℕ Y). ordering_then (nat_cmp hash k.0) (slice_cmp nat_cmp copy.items k.1.items))) old) e) ∙
    ap (λ b. is_met old other || b)
    (ap (λ n. is_eq (ordering_then (nat_cmp (text_hash (folded other)) n) (slice_cmp nat_cmp (folded other) copy.items))) hashed
    ∙ (ap (λ n. is_eq (ordering_then (nat_cmp (text_hash (folded other)) (text_hash n)) (slice_cmp nat_cmp (folded other) n))) copied
    ∙ (same-hashed text_hash (folded other) (folded name)
    ∙ (eq_by_cmp_equiv nat_list_cmp_total).symm (folded other) (folded name)))))
  where
    untrue : (b : Bool) → true ≡ not b → b ≡ false
    untrue true e = e
    untrue false e = refl
