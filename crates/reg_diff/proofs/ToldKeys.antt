-- The keys that are told of a tree from one on: each stands in it at its names, folded, at or below that one, and each key there is told.
use Rattle.std.proofs.Common.{◌≡◌, ℕ, zero, suc, ◌+◌, ◌<◌, Bool, true, false, ◌||◌, is_some, List, [], ◌∷◌, ◌++◌, length, map}
use Rattle.std.proofs.Common.{Option, Some, None, IsSome, refl, sym, ap, ◌∙◌, subst, arith, append_assoc, append-nil, length-append}
use Rattle.std.specs.Prelude.{flat_map, nat_le}
use Rattle.std.specs.FinMap.{get, contains_key}
use Rattle.std.specs.List.{AllByRecursion, list_all, list_any}
use Rattle.std.specs.Ordering.{eq_by_cmp}
use Rattle.std.specs.Cmp.Lexicographic.{lists_total, nat_list_cmp_total}
use Rattle.std.proofs.lemmas.Bool.{and_parts, and_from, false≢true, le-leb}
use Rattle.std.proofs.lemmas.Cmp.{eq_by_cmp_equiv}
use Rattle.std.proofs.lemmas.List.{map-append, length-map}
use Rattle.std.proofs.lemmas.List.Folds.{list_all-append}
use Rattle.reg_names.specs.declared.TheConstants.{PATH_LIMIT}
use Rattle.reg_names.specs.Names.{folded, is_key_name, are_key_names}
use Rattle.reg_heap.specs.Paths.{Path, Tree, Rec, path_cmp, is_child, children_of}
use Rattle.reg_heap.specs.Trees.{IsTree, IsWithinLimits}
use Rattle.reg_heap.proofs.ChildrenOfPath.{named, is_child-below, children-contain, path-is}
use Rattle.reg_tree.proofs.Invariant.CellReadings.{some_of}
use Rattle.reg_tree_text.specs.DumpTexts.{Told, name_of, told_here, told_from}
use Rattle.reg_diff.specs.Branches.{names_along, names_to, keys_from}

-- a key is told as it stands in a tree, at the end of names of keys, not too many, at or below a path
pub record IsToldIn (tree : Tree) (top : Path) (told : Told) : Type 0 where
  pub names : are_key_names PATH_LIMIT told.names ≡ true
  pub key : get tree (map folded told.names) ≡ Some told.key
  pub rest : Path
  pub below : map folded told.names ≡ top ++ rest

-- one of some keys that are told is that of a path
pub record Finds (P : Told → Type 0) (path : Path) (key : Rec) : Type 0 where
  pub told : Told
  pub holds : P told
  pub at : map folded told.names ≡ path
  pub same : told.key ≡ key

-- ---- what holds of each of two lists that are joined

all-append : (P : Told → Type 0) (xs ys : List Told) → AllByRecursion P xs → AllByRecursion P ys → AllByRecursion P (xs ++ ys)
all-append P [] ys a b = b
all-append P (x ∷ xs) ys a b = (a.0, all-append P xs ys a.1 b)

all-front : (P : Told → Type 0) (xs ys : List Told) → AllByRecursion P (xs ++ ys) → AllByRecursion P xs
all-front P [] ys a = tt
all-front P (x ∷ xs) ys a = (a.0, all-front P xs ys a.1)

pub all-back : (P : Told → Type 0) (xs ys : List Told) → AllByRecursion P (xs ++ ys) → AllByRecursion P ys
all-back P [] ys a = a
all-back P (x ∷ xs) ys a = all-back P xs ys a.1

abbrev pub Has : Tree → Path → Type 0
Has tree path = IsSome (get tree path)

-- ---- lists of paths

same-itself : (q : Path) → eq_by_cmp path_cmp q q ≡ true
same-itself q = (eq_by_cmp_equiv (lists_total nat_list_cmp_total)).refl q

-- what holds of those that are found among some holds of each
each : (P : Path → Type 0) (paths : List Path) → ((q : Path) → list_any (eq_by_cmp path_cmp q) paths ≡ true → P q) → AllByRecursion P paths
each P [] h = tt
each P (k ∷ paths) h = (
  h k (ap (λ (b : Bool). b || list_any (eq_by_cmp path_cmp k) paths) (same-itself k)),
  each P paths (λ q e. h q (later (eq_by_cmp path_cmp q k) (list_any (eq_by_cmp path_cmp q) paths) e)),
)
  where
    later : (a b : Bool) → b ≡ true → (a || b) ≡ true
    later true b e = refl
    later false b e = e

-- of lists that are joined, the one of a path that is found
picked : (P : Told → Type 0) (f : Path → List Told) (q : Path) (paths : List Path) → list_any (eq_by_cmp path_cmp q) paths ≡ true →
    AllByRecursion P (flat_map f paths) → AllByRecursion P (f q)
picked P f q [] e a = absurd (false≢true e)
picked P f q (k ∷ paths) e a = by (eq_by_cmp path_cmp q k) refl e (picked P f q paths)
  where
    by : (b : Bool) → eq_by_cmp path_cmp q k ≡ b → (b || list_any (eq_by_cmp path_cmp q) paths) ≡ true →
        (list_any (eq_by_cmp path_cmp q) paths ≡ true → AllByRecursion P (flat_map f paths) → AllByRecursion P (f q)) → AllByRecursion P (f q)
    by true same e rest =
        subst (λ (x : Path). AllByRecursion P (f x)) (sym (path-is q k same)) (all-front P (f k) (flat_map f paths) a)
    by false other e rest = rest e (all-back P (f k) (flat_map f paths) a)

module _ (tree : Tree) (i : IsTree tree) where
  -- with a key the tree has all keys above it
  pub held-above : (path rest : Path) → Has tree (path ++ rest) → Has tree path
  held-above path [] h = subst (Has tree) (append-nil path) h
  held-above path (n ∷ rest) h =
      i.parents path n (held-above (path ++ n ∷ []) rest (subst (Has tree) (sym (append_assoc path (n ∷ []) rest)) h))

  -- the names that lead to a key right below another
  below-names : (names : List (List ℕ)) (path : Path) (name : List ℕ) (key : Rec) → map folded names ≡ path →
      get tree (path ++ name ∷ []) ≡ Some key → map folded (names ++ key.name ∷ []) ≡ path ++ name ∷ []
  below-names names path name key m e =
      map-append folded names (key.name ∷ [])
      ∙ (ap (λ (x : Path). x ++ folded key.name ∷ []) m ∙ ap (λ (n : List ℕ). path ++ n ∷ []) (i.names path name key e))

  -- ---- the names that lead to a key

  -- the first of them folds to the path's
  pub first-folded : (above : Path) (name : List ℕ) → Has tree (above ++ name ∷ []) → folded (name_of (get tree (above ++ name ∷ []))) ≡ name
  first-folded above name h =
      let found = some_of (get tree (above ++ name ∷ [])) h in
      ap (λ (o : Option Rec). folded (name_of o)) found.1 ∙ i.names above name found.0 found.1

  pub longer-has : (above : Path) (name : List ℕ) (rest : Path) → Has tree (above ++ name ∷ rest) → Has tree ((above ++ name ∷ []) ++ rest)
  longer-has above name rest h = subst (Has tree) (sym (append_assoc above (name ∷ []) rest)) h

  pub along-folded : (above path : Path) → Has tree (above ++ path) → map folded (names_along tree above path) ≡ path
  unfolding names_along
  along-folded above [] h = refl
  along-folded above (name ∷ rest) h =
      let child : Path = above ++ name ∷ [] in
      let has = longer-has above name rest h in
      ap (λ (x : List ℕ). x ∷ map folded (names_along tree child rest)) (first-folded above name (held-above child rest has))
      ∙ ap (λ (p : Path). name ∷ p) (along-folded child rest has)

  -- ---- each key of the tree is told

  module _ (P : Told → Type 0) where
    abbrev AllHold : ℕ → List (List ℕ) → Path → Type 0
    AllHold levels names path = AllByRecursion P (told_from levels tree names path)

    here-found : (names : List (List ℕ)) (path : Path) (key : Rec) (found : Option Rec) → map folded names ≡ path → found ≡ Some key →
        AllByRecursion P (told_here names found) → Finds P path key
    here-found names path key found m e a =
        let all : AllByRecursion P (told_here names (Some key)) = subst (λ (o : Option Rec). AllByRecursion P (told_here names o)) e a in
        record { told = record { names = names; key = key }; holds = all.0; at = m; same = refl }

    pub reaches : (levels : ℕ) (rest : Path) (names : List (List ℕ)) (path : Path) (key : Rec) → length rest < levels →
        map folded names ≡ path → get tree (path ++ rest) ≡ Some key → AllHold levels names path → Finds P (path ++ rest) key
    unfolding told_from
    reaches zero rest names path key l m e a = absurd (omega (arith, l))
    reaches (suc levels) [] names path key l m e a =
        let here : get tree path ≡ Some key = subst (λ (q : Path). get tree q ≡ Some key) (append-nil path) e in
        subst (λ (q : Path). Finds P q key) (sym (append-nil path))
        (here-found names path key (get tree path) m here (all-front P (told_here names (get tree path)) _ a))
    reaches (suc levels) (n ∷ rest) names path key l m e a =
        let child : Path = path ++ n ∷ [] in
        let longer : child ++ rest ≡ path ++ n ∷ rest = append_assoc path (n ∷ []) rest in
        let deeper : get tree (child ++ rest) ≡ Some key = ap (get tree) longer ∙ e in
        let has : Has tree child = held-above child rest (is-some (get tree (child ++ rest)) key deeper) in
        let found = some_of (get tree child) has in
        let among : list_any (eq_by_cmp path_cmp child) (children_of tree path) ≡ true =
        children-contain tree path child ∙ and_from _ _ (is_child-below path n) (ap is_some found.1) in
        let below = all-back P (told_here names (get tree path)) _ a in
        let all = picked P (λ child. told_from levels tree (names ++ name_of (get tree child) ∷ []) child) child
        (children_of tree path) among below in
        let joined : map folded (names ++ name_of (get tree child) ∷ []) ≡ child =
        ap (λ (o : Option Rec). map folded (names ++ name_of o ∷ [])) found.1 ∙ below-names names path n found.0 m found.1 in
        subst (λ (q : Path). Finds P q key) longer
        (reaches levels rest (names ++ name_of (get tree child) ∷ []) child key (omega (arith, l)) joined deeper all)
      where
        is-some : (o : Option Rec) (key : Rec) → o ≡ Some key → IsSome o
        is-some o key e = ap is_some e

    pub all-told : (w : IsWithinLimits tree) (path rest : Path) (key : Rec) → get tree (path ++ rest) ≡ Some key →
        AllByRecursion P (keys_from tree path) → Finds P (path ++ rest) key
    unfolding keys_from
    all-told w path rest key e a =
        let shallow = w.shallow (path ++ rest) (ap is_some e) in
        let long = length-append path rest in
        reaches (PATH_LIMIT + 1) rest (names_to tree path) path key (omega (arith, shallow, long))
        (along-folded [] path (held-above path rest (ap is_some e))) e a

  -- ---- each key that is told is the tree's

  pub along-good : IsWithinLimits tree → (above path : Path) → Has tree (above ++ path) → list_all is_key_name (names_along tree above path) ≡ true
  unfolding names_along
  along-good w above [] h = refl
  along-good w above (name ∷ rest) h =
      let child : Path = above ++ name ∷ [] in
      let has = longer-has above name rest h in
      let found = some_of (get tree child) (held-above child rest has) in
      and_from (is_key_name (name_of (get tree child))) (list_all is_key_name (names_along tree child rest))
      (ap (λ (o : Option Rec). is_key_name (name_of o)) found.1 ∙ (w.keys child found.0 found.1).name) (along-good w child rest has)

  module _ (w : IsWithinLimits tree) (top : Path) where
    abbrev pub AreTold : ℕ → List (List ℕ) → Path → Type 0
    AreTold levels names path = AllByRecursion (IsToldIn tree top) (told_from levels tree names path)

    abbrev pub IsBelow : Path → Path → Type 0
    IsBelow path child = (is_child path child ≡ true) × Has tree child

    pub children-below : (path : Path) → AllByRecursion (IsBelow path) (children_of tree path)
    children-below path =
        each (IsBelow path) (children_of tree path) (λ q e.
        let both = and_parts (is_child path q) (contains_key tree q) (sym (children-contain tree path q) ∙ e) in
        (both.0, both.1))

    few-names : (names : List (List ℕ)) (path : Path) (key : Rec) → map folded names ≡ path → list_all is_key_name names ≡ true →
        get tree path ≡ Some key → are_key_names PATH_LIMIT names ≡ true
    unfolding are_key_names
    few-names names path key m all e =
        let shallow = w.shallow path (ap is_some e) in
        let long = sym (length-map names folded) ∙ ap length m in
        and_from (list_all is_key_name names) (nat_le (length names) PATH_LIMIT) all (le-leb (length names) PATH_LIMIT (omega (arith, shallow, long)))

    here-told : (names : List (List ℕ)) (path rest : Path) (found : Option Rec) → get tree path ≡ found → map folded names ≡ path →
        list_all is_key_name names ≡ true → path ≡ top ++ rest → AllByRecursion (IsToldIn tree top) (told_here names found)
    here-told names path rest None e m all b = tt
    here-told names path rest (Some key) e m all b =
        (record { names = few-names names path key m all e; key = ap (get tree) m ∙ e; rest = rest; below = m ∙ b }, tt)

    abbrev pub AllTold : ℕ → Type 0
    AllTold levels =
        (names : List (List ℕ)) (path rest : Path) → map folded names ≡ path → list_all is_key_name names ≡ true → path ≡ top ++ rest →
        AreTold levels names path

    child-told : (levels : ℕ) → AllTold levels → (names : List (List ℕ)) (path rest child : Path) → map folded names ≡ path →
        list_all is_key_name names ≡ true → path ≡ top ++ rest → IsBelow path child →
        AreTold levels (names ++ name_of (get tree child) ∷ []) child
    child-told levels each names path rest child m all b (below, has) =
        let last = named path child below in
        let found = some_of (get tree child) has in
        let there : get tree (path ++ last.0 ∷ []) ≡ Some found.0 = ap (get tree) (sym last.1) ∙ found.1 in
        let joined : map folded (names ++ name_of (get tree child) ∷ []) ≡ child =
        ap (λ (o : Option Rec). map folded (names ++ name_of o ∷ [])) found.1 ∙ (below-names names path last.0 found.0 m there ∙ sym last.1) in
        let good : list_all is_key_name (names ++ found.0.name ∷ []) ≡ true =
        list_all-append is_key_name names (found.0.name ∷ []) ∙
        and_from _ _ all (and_from _ _ (w.keys child found.0 found.1).name refl) in
        each (names ++ name_of (get tree child) ∷ []) child (rest ++ last.0 ∷ []) joined
        (ap (λ (o : Option Rec). list_all is_key_name (names ++ name_of o ∷ [])) found.1 ∙ good)
        (last.1 ∙ (ap (λ (p : Path). p ++ last.0 ∷ []) b ∙ append_assoc top rest (last.0 ∷ [])))

    below-told : (levels : ℕ) → AllTold levels → (names : List (List ℕ)) (path rest : Path) → map folded names ≡ path →
        list_all is_key_name names ≡ true → path ≡ top ++ rest → (children : List Path) → AllByRecursion (IsBelow path) children →
        AllByRecursion (IsToldIn tree top) (flat_map (λ child. told_from levels tree (names ++ name_of (get tree child) ∷ []) child) children)
    below-told levels each names path rest m all b [] a = tt
    below-told levels each names path rest m all b (child ∷ children) (a, as_well) =
        all-append (IsToldIn tree top) (told_from levels tree (names ++ name_of (get tree child) ∷ []) child) _
        (child-told levels each names path rest child m all b a) (below-told levels each names path rest m all b children as_well)

    pub told-each : (levels : ℕ) → AllTold levels
    unfolding told_from
    told-each zero names path rest m all b = tt
    told-each (suc levels) names path rest m all b =
        all-append (IsToldIn tree top) (told_here names (get tree path)) _ (here-told names path rest (get tree path) refl m all b)
        (below-told levels (told-each levels) names path rest m all b (children_of tree path) (children-below path))

    pub keys-there : Has tree top → AllByRecursion (IsToldIn tree top) (keys_from tree top)
    unfolding keys_from
    keys-there h =
        told-each (PATH_LIMIT + 1) (names_to tree top) top [] (along-folded [] top h) (along-good w [] top h) (sym (append-nil top))
