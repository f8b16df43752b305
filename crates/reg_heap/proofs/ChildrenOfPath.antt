-- The children of a key: the paths right below its own, in the order of their last names.
use Rattle.std.proofs.Common.{◌≡◌, ℕ, ◌+◌, Bool, true, false, ◌&&◌, T, List, [], ◌∷◌, ◌++◌, length, map, filter, drop, refl, sym, ap, ◌∙◌, arith, eqb, cond, length-append}
use Rattle.std.specs.Prelude.{bytes_eq}
use Rattle.std.specs.Ordering.{nat_cmp, ordering_then, is_lt, is_eq, eq_by_cmp}
use Rattle.std.specs.declared.cmp.Ordering.{Ordering}
use Rattle.std.specs.declared.cmp.Ordering.TheVariants.{Less, Equal, Greater}
use Rattle.std.proofs.lemmas.Cmp.{tied_itself}
use Rattle.std.specs.Cmp.Lexicographic.{slice_cmp, nat_list_cmp_total}
use Rattle.std.specs.List.{AllByRecursion, starts_with, list_any}
use Rattle.std.specs.List.Sorted.{IsStrictlySortedBy}
use Rattle.std.specs.FinMap.{entries, entries_sorted, keys, is_sorted, contains_key, contains_key-keys, slice_cmp-IsAntisymmetric, nat_cmp-IsAntisymmetric}
use Rattle.std.specs.FinMap.Entries.{below_all}
use Rattle.std.proofs.lemmas.Bool.{and_parts, and_from, eqb-true, eq-eqb, false≢true}
use Rattle.std.proofs.lemmas.List.Kept.{IsStrictlySortedBy-filter}
use Rattle.std.proofs.lemmas.Map.Views.{any-filter_same}
use Rattle.std.proofs.lemmas.Slice.Eq.{starts_is, bytes_eq-Decides}
use Rattle.reg_heap.specs.Paths.{Path, Tree, Rec, path_cmp, is_child, children_of}

-- the path of the key of that name right below p
abbrev pub below : Path → List ℕ → Path
below p name = p ++ name ∷ []

one : {A : Type 0} (xs : List A) → length xs ≡ 1 → (x : A) × (xs ≡ x ∷ [])
one [] e = absurd (omega arith)
one (x ∷ []) e = (x, refl)
one (x ∷ y ∷ xs) e = absurd (omega arith)

-- a child is the path with one name more
pub named : (p q : Path) → is_child p q ≡ true → (name : List ℕ) × (q ≡ below p name)
named p q h =
    let both = and_parts (starts_with bytes_eq q p) (eqb (length q) (length p + 1)) h in
    let front : q ≡ p ++ drop (length p) q = (starts_is bytes_eq-Decides q p (starts_with bytes_eq q p) refl).0 both.0 in
    let long : length q ≡ length p + 1 = eqb-true _ _ both.1 in
    let sum = ap length front ∙ length-append p (drop (length p) q) in
    let last = one (drop (length p) q) (omega arith) in
    (last.0, front ∙ ap (λ t. p ++ t) last.1)

-- and the other way round
pub is_child-below : (p : Path) (name : List ℕ) → is_child p (below p name) ≡ true
is_child-below p name =
    and_from _ _ ((starts_is bytes_eq-Decides (below p name) p (starts_with bytes_eq (below p name) p) refl).1 (name ∷ []) refl) (eq-eqb _ _ (length-append p (name ∷ [])))

-- ---- the order

abbrev name_order : List ℕ → List ℕ → Ordering
name_order = slice_cmp nat_cmp

then_Equal : (o : Ordering) → ordering_then o Equal ≡ o
then_Equal Less = refl
then_Equal Equal = refl
then_Equal Greater = refl

-- paths below the same one are ordered by their last names
pub path_cmp-below : (p : Path) (a b : List ℕ) → path_cmp (below p a) (below p b) ≡ name_order a b
path_cmp-below [] a b = then_Equal (name_order a b)
path_cmp-below (n ∷ p) a b = rw (tied_itself nat_list_cmp_total n) (path_cmp-below p a b)

less : (o : Ordering) → T (is_lt o) → o ≡ Less
less Less h = refl
less Equal h = absurd h
less Greater h = absurd h

both : (a b : Bool) → T (a && b) → T a × T b
both true b h = (tt, h)
both false b h = absurd h

below-all : (q : Path) (es : List (Path × Rec)) → T (below_all path_cmp q es) → AllByRecursion (λ y. path_cmp q y ≡ Less) (map (λ e. e.0) es)
below-all q [] h = tt
below-all q (e ∷ es) h = let t = both _ _ h in (less _ t.0, below-all q es t.1)

rise : (es : List (Path × Rec)) → T (is_sorted path_cmp es) → IsStrictlySortedBy path_cmp (map (λ e. e.0) es)
unfolding IsStrictlySortedBy
rise [] h = tt
rise (e ∷ es) h = let t = both _ _ h in (below-all e.0 es t.0, rise es t.1)

-- a tree's paths rise
pub keys_rise : (t : Tree) → IsStrictlySortedBy path_cmp (keys t)
keys_rise t = rise (entries t) (entries_sorted t)

-- paths right below p, each by its last name, which rise
pub record AreNamed (p : Path) (paths : List Path) : Type 0 where
  pub names : List (List ℕ)
  pub are : paths ≡ map (below p) names
  pub rising : IsStrictlySortedBy name_order names

names_rise : (p : Path) (a : List ℕ) (names : List (List ℕ)) → AllByRecursion (λ y. path_cmp (below p a) y ≡ Less) (map (below p) names) → AllByRecursion (λ n. name_order a n ≡ Less) names
names_rise p a [] h = tt
names_rise p a (b ∷ names) h = (sym (path_cmp-below p a b) ∙ h.0, names_rise p a names h.1)

named_one : (p q : Path) (paths : List Path) (name : List ℕ) → q ≡ below p name → AllByRecursion (λ y. path_cmp q y ≡ Less) paths → AreNamed p paths → AreNamed p (q ∷ paths)
unfolding IsStrictlySortedBy
named_one p q paths name e h r =
    let heads : AllByRecursion (λ y. path_cmp (below p name) y ≡ Less) (map (below p) r.names) = rw (← e, ← r.are) h in
    record { names = name ∷ r.names; are = rw (e, r.are) refl; rising = (names_rise p name r.names heads, r.rising) }

named_all : (p : Path) (paths : List Path) → AllByRecursion (λ q. is_child p q ≡ true) paths → IsStrictlySortedBy path_cmp paths → AreNamed p paths
unfolding IsStrictlySortedBy
named_all p [] c h = record { names = []; are = refl; rising = tt }
named_all p (q ∷ paths) c h = let n = named p q c.0 in named_one p q paths n.0 n.1 h.0 (named_all p paths c.1 h.1)

kept_one : (p q : Path) (paths : List Path) (b : Bool) → is_child p q ≡ b → AllByRecursion (λ q. is_child p q ≡ true) paths → AllByRecursion (λ q. is_child p q ≡ true) (cond b (q ∷ paths) paths)
kept_one p q paths true e h = (e, h)
kept_one p q paths false e h = h

kept : (p : Path) (paths : List Path) → AllByRecursion (λ q. is_child p q ≡ true) (filter (is_child p) paths)
kept p [] = tt
kept p (q ∷ paths) = kept_one p q (filter (is_child p) paths) (is_child p q) refl (kept p paths)

-- the children are the path with one name more, and those names rise
pub children-named : (t : Tree) (p : Path) → AreNamed p (children_of t p)
children-named t p = named_all p (children_of t p) (kept p (keys t)) (IsStrictlySortedBy-filter path_cmp (is_child p) (keys t) (keys_rise t))

-- ---- which they are

-- two paths that compare as equal are one
pub path-is : (q k : Path) → eq_by_cmp path_cmp q k ≡ true → q ≡ k
path-is q k e = slice_cmp-IsAntisymmetric (slice_cmp-IsAntisymmetric nat_cmp-IsAntisymmetric) q k (equal (path_cmp q k) e)
  where
    equal : (o : Ordering) → is_eq o ≡ true → o ≡ Equal
    equal Less e = absurd (false≢true e)
    equal Equal e = refl
    equal Greater e = absurd (false≢true e)

-- a path is among the children of p exactly where the tree has it and it is right below p
pub children-contain : (t : Tree) (p q : Path) → list_any (eq_by_cmp path_cmp q) (children_of t p) ≡ (is_child p q && contains_key t q)
children-contain t p q =
    any-filter_same (eq_by_cmp path_cmp q) (is_child p) (is_child p q) (λ k e. ap (is_child p) (sym (path-is q k e))) (keys t) ∙ ap (λ b. is_child p q && b) (sym (contains_key-keys t q))
