-- Listings, computed of a tree that was worked out by hand.
use Rattle.std.proofs.Common.{◌≡◌, ℕ, zero, suc, ◌+◌, List, [], ◌∷◌, ◌++◌, drop, map, Option, refl, ap, ◌∙◌}
use Rattle.std.specs.Prelude.{codes, filter, flat_map}
use Rattle.std.specs.FinMap.{from_sorted, entries-from_sorted, get-from_sorted, get}
use Rattle.std.specs.FinMap.Entries.{find}
use Rattle.std.specs.Fmt.{digits}
use Rattle.reg_names.specs.declared.TheConstants.{PATH_LIMIT}
use Rattle.reg_heap.specs.Paths.{Path, Tree, Rec, Member, path_cmp, is_child, children_of}
use Rattle.reg_heap.specs.Edits.{values_of}
use Rattle.reg_text.specs.Texts.{byte_text}
use Rattle.reg_tree_text.specs.DumpTexts.{Told, name_of, told_here, told_from}
use Rattle.reg_tree_text.specs.Listings.{after_name, value_line, value_lines, key_line, list_text, keys_below, told_lines, tree_text}

-- ---- the definitions, over functions that compute

told_by : ℕ → (Path → Option Rec) → (Path → List Path) → List (List ℕ) → Path → List Told
told_by zero at below names path = []
told_by (suc levels) at below names path =
    told_here names (at path) ++ flat_map (λ child. told_by levels at below (names ++ name_of (at child) ∷ []) child) (below path)

each-same : {A : Type 0} (f g : Path → List A) → ((p : Path) → f p ≡ g p) → (ps : List Path) → flat_map f ps ≡ flat_map g ps
each-same f g h [] = refl
each-same {A = A} f g h (p ∷ ps) = ap (λ (x : List A). x ++ flat_map f ps) (h p) ∙ ap (λ (x : List A). g p ++ x) (each-same f g h ps)

module _ (tree : Tree) (at : Path → Option Rec) (below : Path → List Path) (a : (p : Path) → get tree p ≡ at p)
    (b : (p : Path) → children_of tree p ≡ below p) where
  told-same : (levels : ℕ) (names : List (List ℕ)) (path : Path) → told_from levels tree names path ≡ told_by levels at below names path
  unfolding told_by told_from
  told-same zero names path = refl
  told-same (suc levels) names path =
      ap (λ (o : Option Rec). told_here names o ++ flat_map (λ child. told_from levels tree (names ++ name_of (get tree child) ∷ []) child)
      (children_of tree path)) (a path)
      ∙ ap (λ (x : List Told). told_here names (at path) ++ x)
      (ap (flat_map (λ child. told_from levels tree (names ++ name_of (get tree child) ∷ []) child)) (b path)
      ∙ each-same _ _
      (λ child.
      ap (λ (o : Option Rec). told_from levels tree (names ++ name_of o ∷ []) child) (a child)
      ∙ told-same levels (names ++ name_of (at child) ∷ []) child)
      (below path))

  list_by : Path → List ℕ
  list_by path = value_lines (values_of (at path)) ++ flat_map (λ child. key_line (name_of (at child))) (below path)

  list-same : (path : Path) → list_text tree path ≡ list_by path
  unfolding list_text list_by
  list-same path =
      ap (λ (o : Option Rec). value_lines (values_of o) ++ flat_map (λ child. key_line (name_of (get tree child))) (children_of tree path))
      (a path)
      ∙ ap (λ (x : List ℕ). value_lines (values_of (at path)) ++ x)
      (ap (flat_map (λ child. key_line (name_of (get tree child)))) (b path)
      ∙ each-same _ _ (λ child. ap (λ (o : Option Rec). key_line (name_of o)) (a child)) (below path))

  tree_by : Path → List ℕ
  tree_by path = value_lines (values_of (at path)) ++ flat_map told_lines (drop 1 (told_by (PATH_LIMIT + 1) at below [] path))

  tree-same : (path : Path) → tree_text tree path ≡ tree_by path
  unfolding tree_text keys_below tree_by
  tree-same path =
      ap (λ (o : Option Rec). value_lines (values_of o) ++ flat_map told_lines (drop 1 (told_from (PATH_LIMIT + 1) tree [] path))) (a path)
      ∙ ap (λ (x : List Told). value_lines (values_of (at path)) ++ flat_map told_lines (drop 1 x)) (told-same (PATH_LIMIT + 1) [] path)

-- ---- a tree of five keys, two with values

abbrev key : List ℕ → List Member → Rec
key name values = record { name = name; marks = 0; class = []; descriptor = 1 ∷ []; time = 7; values = values }

abbrev values : List Member
values = record { name = codes "v"; kind = 4; bytes = 1 ∷ 0 ∷ 0 ∷ 0 ∷ [] } ∷ record { name = []; kind = 1; bytes = [] } ∷ []

abbrev entries : List (Path × Rec)
entries =
    ([], key (codes "ROOT") []) ∷ (codes "A" ∷ [], key (codes "a") values) ∷ (codes "A" ∷ codes "C" ∷ [], key (codes "c") [])
    ∷ (codes "A" ∷ codes "C" ∷ codes "D E" ∷ [], key (codes "d e") (record { name = codes "w"; kind = 3; bytes = 9 ∷ [] } ∷ []))
    ∷ (codes "B" ∷ [], key (codes "B") []) ∷ []

abbrev tree : Tree
tree = from_sorted entries

abbrev at : Path → Option Rec
at p = find path_cmp p entries

abbrev below : Path → List Path
below p = filter (is_child p) (map (λ (e : Path × Rec). e.0) entries)

at-same : (p : Path) → get tree p ≡ at p
at-same p = get-from_sorted path_cmp entries p tt

below-same : (p : Path) → children_of tree p ≡ below p
below-same p =
    ap (λ (es : List (Path × Rec)). filter (is_child p) (map (λ (e : Path × Rec). e.0) es)) (entries-from_sorted path_cmp entries tt)

-- ---- listed

-- the root, which has no values
list-root : list_text tree [] ≡ codes "key =a\nkey =B\n"
unfolding list_by value_line after_name key_line digits byte_text
list-root = list-same tree at below at-same below-same [] ∙ refl

-- values first, and then the names of the keys right below, and not of those below these
list-inner : list_text tree (codes "A" ∷ []) ≡ codes "value =v type 4 size 4\nvalue = type 1 size 0\nkey =c\n"
unfolding list_by value_line after_name key_line digits byte_text
list-inner = list-same tree at below at-same below-same (codes "A" ∷ []) ∙ refl

-- a key without keys
list-last : list_text tree (codes "A" ∷ codes "C" ∷ codes "D E" ∷ []) ≡ codes "value =w type 3 size 1\n"
unfolding list_by value_line after_name key_line digits byte_text
list-last = list-same tree at below at-same below-same (codes "A" ∷ codes "C" ∷ codes "D E" ∷ []) ∙ refl

tree-root : tree_text tree [] ≡
    codes "key =a\nvalue =v type 4 size 4\nvalue = type 1 size 0\nkey =a\\c\nkey =a\\c\\d%20e\nvalue =w type 3 size 1\nkey =B\n"
unfolding tree_by told_by value_line after_name key_line digits byte_text
tree-root = tree-same tree at below at-same below-same [] ∙ refl

-- names from the key on that is listed, whose own name isn't told
tree-inner : tree_text tree (codes "A" ∷ []) ≡
    codes "value =v type 4 size 4\nvalue = type 1 size 0\nkey =c\nkey =c\\d%20e\nvalue =w type 3 size 1\n"
unfolding tree_by told_by value_line after_name key_line digits byte_text
tree-inner = tree-same tree at below at-same below-same (codes "A" ∷ []) ∙ refl
