-- Paths at or below the keys that are right below one: which of them a tree has, and that those of two such keys differ.
use Rattle.std.proofs.Common.{◌≡◌, ◌≢◌, ℕ, ◌||◌, ◌&&◌, Bool, true, false, is_some, List, [], ◌∷◌, ◌++◌, length, map, drop, Option, Some, None}
use Rattle.std.proofs.Common.{IsSome, refl, sym, ap, ◌∙◌, subst, arith, append_assoc, append-nil, length-append}
use Rattle.std.specs.List.{AllByRecursion, list_any}
use Rattle.std.specs.List.Sorted.{IsStrictlySortedBy}
use Rattle.std.specs.Ordering.{nat_cmp, eq_by_cmp}
use Rattle.std.specs.declared.cmp.Ordering.TheVariants.{Less, Equal}
use Rattle.std.specs.Cmp.Lexicographic.{slice_cmp, nat_list_cmp_total}
use Rattle.std.specs.FinMap.{get, contains_key}
use Rattle.std.proofs.lemmas.Bool.{and_from, false≢true}
use Rattle.std.proofs.lemmas.Cmp.{tied_itself}
use Rattle.reg_heap.specs.Paths.{Path, Tree, Rec, path_cmp, is_child, children_of}
use Rattle.reg_heap.specs.Edits.{is_within}
use Rattle.reg_heap.specs.Trees.{IsTree}
use Rattle.reg_heap.proofs.ChildrenOfPath.{below, is_child-below, children-contain, path-is}
use Rattle.reg_heap.proofs.DeletedTrees.{within-rest, within-append, within-self}
use Rattle.reg_model.proofs.HandleInvariant.{same-self}
use Rattle.reg_model.proofs.TreesOfChanges.{snoc-same}
use Rattle.reg_dotreg_writer.proofs.NamesOnWay.{front_there}
use Rattle.reg_dotreg_law.proofs.SeenKeys.{is_same}

-- ---- tests

pub no-true : (b : Bool) → (b ≡ true → ⊥) → b ≡ false
no-true true h = absurd (h refl)
no-true false h = refl

later : (a b : Bool) → b ≡ true → (a || b) ≡ true
later true b e = refl
later false b e = e

-- whether a path is at or below one of some
abbrev pub is_within_any : List Path → Path → Bool
is_within_any paths q = list_any (λ (p : Path). is_within p q) paths

-- ---- names that differ

abbrev pub Distinct : List (List ℕ) → Type 0
Distinct [] = Unit {0}
Distinct (n ∷ names) = AllByRecursion (λ (m : List ℕ). n ≢ m) names × Distinct names

others : (n : List ℕ) (names : List (List ℕ)) → AllByRecursion (λ (m : List ℕ). slice_cmp nat_cmp n m ≡ Less) names →
    AllByRecursion (λ (m : List ℕ). n ≢ m) names
others n [] a = tt
others n (m ∷ names) a = (λ (e : n ≡ m). another n m e a.0, others n names a.1)
  where
    another : (n m : List ℕ) → n ≡ m → slice_cmp nat_cmp n m ≡ Less → ⊥
    another n m e less =
        let tied : slice_cmp nat_cmp n n ≡ Equal = tied_itself nat_list_cmp_total n in
        let same : slice_cmp nat_cmp n n ≡ Less = ap (slice_cmp nat_cmp n) e ∙ less in
        absurd (cc)

pub distinct : (names : List (List ℕ)) → IsStrictlySortedBy (slice_cmp nat_cmp) names → Distinct names
unfolding IsStrictlySortedBy
distinct [] h = tt
distinct (n ∷ names) h = (others n names h.0, distinct names h.1)

-- ---- paths right below one

pub below-apart : (path : Path) (a b : List ℕ) → a ≢ b → is_within (below path a) (below path b) ≡ false
below-apart path a b ne = no-true (is_within (below path a) (below path b)) (λ is. ne (same is))
  where
    by : (rest : Path) → below path b ≡ below path a ++ rest → a ≡ b
    by [] e = sym (snoc-same path path b a (e ∙ append-nil (below path a))).1
    by (n ∷ rest) e =
        let whole = ap length e ∙ length-append (below path a) (n ∷ rest) in
        let one = length-append path (a ∷ []) in
        let two = length-append path (b ∷ []) in
        absurd (omega (arith, whole, one, two))

    same : is_within (below path a) (below path b) ≡ true → a ≡ b
    same is = by (drop (length (below path a)) (below path b)) (within-rest (below path a) (below path b) is)

-- what is at or below one of those is below the path
pub any-within : (path : Path) (names : List (List ℕ)) (q : Path) → is_within_any (map (below path) names) q ≡ true → is_within path q ≡ true
any-within path [] q e = absurd (false≢true e)
any-within path (n ∷ names) q e = by (is_within (below path n) q) refl e (any-within path names q)
  where
    by : (b : Bool) → is_within (below path n) q ≡ b → (b || is_within_any (map (below path) names) q) ≡ true →
        (is_within_any (map (below path) names) q ≡ true → is_within path q ≡ true) → is_within path q ≡ true
    by true is e deeper =
        let rest : Path = drop (length (below path n)) q in
        let whole : q ≡ path ++ n ∷ rest = within-rest (below path n) q is ∙ append_assoc path (n ∷ []) rest in
        subst (λ (x : Path). is_within path x ≡ true) (sym whole) (within-append path (n ∷ rest))
    by false out e deeper = deeper e

pub same-within : (path q : Path) → is_same q path ≡ true → is_within path q ≡ true
same-within path q e = subst (λ (x : Path). is_within path x ≡ true) (sym (path-is q path e)) (within-self path)

-- ---- a tree's keys

any-from : (child rest : Path) (paths : List Path) → list_any (eq_by_cmp path_cmp child) paths ≡ true → is_within_any paths (child ++ rest) ≡ true
any-from child rest [] e = absurd (false≢true e)
any-from child rest (p ∷ paths) e = by (eq_by_cmp path_cmp child p) refl e (any-from child rest paths)
  where
    by : (b : Bool) → eq_by_cmp path_cmp child p ≡ b → (b || list_any (eq_by_cmp path_cmp child) paths) ≡ true →
        (list_any (eq_by_cmp path_cmp child) paths ≡ true → is_within_any paths (child ++ rest) ≡ true) →
        is_within_any (p ∷ paths) (child ++ rest) ≡ true
    by true same e deeper =
        let is : is_within p (child ++ rest) ≡ true =
        subst (λ (x : Path). is_within x (child ++ rest) ≡ true) (path-is child p same) (within-append child rest) in
        ap (λ (b : Bool). b || is_within_any paths (child ++ rest)) is
    by false other e deeper = later (is_within p (child ++ rest)) (is_within_any paths (child ++ rest)) (deeper e)

each : (tree : Tree) (path : Path) (names : List (List ℕ)) → ((n : List ℕ) → list_any (eq_by_cmp path_cmp (below path n)) (map (below path) names) ≡ true →
    IsSome (get tree (below path n))) → AllByRecursion (λ (n : List ℕ). IsSome (get tree (below path n))) names
each tree path [] h = tt
each tree path (m ∷ names) h = (
  h m (ap (λ (b : Bool). b || list_any (eq_by_cmp path_cmp (below path m)) (map (below path) names)) (same-self (below path m))),
  each tree path names (λ n e. h n (later (eq_by_cmp path_cmp (below path n) (below path m))
      (list_any (eq_by_cmp path_cmp (below path n)) (map (below path) names)) e)),
)

module _ (tree : Tree) (i : IsTree tree) where
  -- nothing is below a key but at or below those that are right below it
  pub outside : (path : Path) (n : List ℕ) (rest : Path) → is_within_any (children_of tree path) (path ++ n ∷ rest) ≡ false →
      get tree (path ++ n ∷ rest) ≡ None
  outside path n rest e = by (get tree (path ++ n ∷ rest)) refl
    where
      longer : below path n ++ rest ≡ path ++ n ∷ rest
      longer = append_assoc path (n ∷ []) rest

      by : (o : Option Rec) → get tree (path ++ n ∷ rest) ≡ o → get tree (path ++ n ∷ rest) ≡ None
      by None is = is
      by (Some r) is =
          let there : IsSome (get tree (below path n ++ rest)) = ap is_some (ap (get tree) longer ∙ is) in
          let has : IsSome (get tree (below path n)) = front_there tree i (below path n) rest there in
          let among : list_any (eq_by_cmp path_cmp (below path n)) (children_of tree path) ≡ true =
          children-contain tree path (below path n) ∙ and_from _ _ (is_child-below path n) has in
          let any : is_within_any (children_of tree path) (path ++ n ∷ rest) ≡ true =
          subst (λ (x : Path). is_within_any (children_of tree path) x ≡ true) longer
          (any-from (below path n) rest (children_of tree path) among) in
          absurd (false≢true (sym e ∙ any))

  -- nothing is below a key that isn't there
  pub none-below : (path rest : Path) → get tree path ≡ None → get tree (path ++ rest) ≡ None
  none-below path rest none = by (get tree (path ++ rest)) refl
    where
      by : (o : Option Rec) → get tree (path ++ rest) ≡ o → get tree (path ++ rest) ≡ None
      by None is = is
      by (Some r) is =
          let there : IsSome (get tree path) = front_there tree i path rest (ap is_some is) in
          absurd (false≢true (sym (ap is_some none) ∙ there))

  pub child-there : (path : Path) (names : List (List ℕ)) → children_of tree path ≡ map (below path) names →
      AllByRecursion (λ (n : List ℕ). IsSome (get tree (below path n))) names
  child-there path names are = each tree path names (λ n e. got n (ap (list_any (eq_by_cmp path_cmp (below path n))) are ∙ e))
    where
      got : (n : List ℕ) → list_any (eq_by_cmp path_cmp (below path n)) (children_of tree path) ≡ true → IsSome (get tree (below path n))
      got n e =
          let both : (is_child path (below path n) && contains_key tree (below path n)) ≡ true = sym (children-contain tree path (below path n)) ∙ e in
          sym (ap (λ (b : Bool). b && contains_key tree (below path n)) (is_child-below path n)) ∙ both
