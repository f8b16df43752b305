-- The keys that are told of a tree from one of them on: they have in front what stands for the root's name, and can be read back.
use Rattle.std.proofs.Common.{◌≡◌, ℕ, zero, suc, ◌+◌, ◌&&◌, true, List, [], ◌∷◌, ◌++◌, length, map}
use Rattle.std.proofs.Common.{Option, Some, None, IsSome, is_some, refl, sym, ap, ◌∙◌, subst, arith}
use Rattle.std.specs.Prelude.{flat_map, nat_le}
use Rattle.std.specs.FinMap.{get}
use Rattle.std.specs.List.{AllByRecursion, list_all}
use Rattle.std.proofs.lemmas.Bool.{and_parts, and_from, le-leb}
use Rattle.std.proofs.lemmas.List.{map-append, length-map}
use Rattle.std.proofs.lemmas.List.Folds.{list_all-append}
use Rattle.reg_names.specs.declared.TheConstants.{PATH_LIMIT}
use Rattle.reg_names.specs.Names.{folded, is_key_name, are_key_names}
use Rattle.reg_heap.specs.Paths.{Path, Tree, Rec, Member, children_of}
use Rattle.reg_heap.specs.Trees.{IsTree, IsWithinLimits, IsSmallValue}
use Rattle.reg_heap.proofs.ChildrenOfPath.{below, children-named}
use Rattle.reg_model.proofs.TreesOfChanges.{some-of}
use Rattle.reg_tree_text.specs.DumpTexts.{Told, name_of, told_here, told_from}
use Rattle.reg_dotreg_writer.specs.Entries.{is_line_name, is_writable, CanWrite, names_behind, keys_from}
use Rattle.reg_tree.specs.ValueBytes.{HoldsBytes, IsOfBytes}
use Rattle.reg_dotreg_law.proofs.ChildPaths.{child-there}
use Rattle.reg_dotreg_law.proofs.WayKeys.{behind-folded, behind-good}
use Rattle.reg_dotreg_law.specs.ReadBack.{IsKept}
use Rattle.reg_dotreg_law.proofs.BlocksBack.{IsKeptBelow}

values-kept : (values : List Member) → AllByRecursion IsSmallValue values → list_all (λ (value : Member). is_line_name value.name) values ≡ true →
    AllByRecursion HoldsBytes values → AllByRecursion IsKept values
values-kept [] s w b = tt
values-kept (v ∷ values) s w b =
    let both = and_parts (is_line_name v.name) (list_all (λ (value : Member). is_line_name value.name) values) w in
    (record { name = s.0.name; line = both.0; kind = b.0.0; bytes = b.0.1 }, values-kept values s.1 both.1 b.1)

both-kept : (root : List ℕ) (xs ys : List Told) → AllByRecursion (IsKeptBelow root) xs → AllByRecursion (IsKeptBelow root) ys →
    AllByRecursion (IsKeptBelow root) (xs ++ ys)
both-kept root [] ys a b = b
both-kept root (x ∷ xs) ys a b = (a.0, both-kept root xs ys a.1 b)

module _ (tree : Tree) (i : IsTree tree) (w : IsWithinLimits tree) (o : IsOfBytes tree) (root : List ℕ) where
  -- names that lead to a key of the tree
  record Leads (names : List (List ℕ)) (path : Path) : Type 0 where
    at : map folded names ≡ path
    good : list_all is_key_name names ≡ true

  few-names : (names : List (List ℕ)) (path : Path) (key : Rec) → Leads names path → get tree path ≡ Some key →
      are_key_names PATH_LIMIT names ≡ true
  unfolding are_key_names
  few-names names path key l e =
      let shallow = w.shallow path (ap is_some e) in
      let long = sym (length-map names folded) ∙ ap length l.at in
      and_from (list_all is_key_name names) (nat_le (length names) PATH_LIMIT) l.good (le-leb (length names) PATH_LIMIT (omega (arith, shallow, long)))

  key-kept : (names : List (List ℕ)) (path : Path) (key : Rec) → Leads names path → get tree path ≡ Some key →
      is_writable (record { names = root ∷ names; key = key }) ≡ true → IsKeptBelow root (record { names = root ∷ names; key = key })
  key-kept names path key l e can =
      let both = and_parts (list_all is_line_name (root ∷ names)) (list_all (λ (value : Member). is_line_name value.name) key.values) can in
      record {
        names = names;
        are = refl;
        good = few-names names path key l e;
        lines = both.0;
        values = values-kept key.values (w.keys path key e).values both.1 (o.values path key e);
      }

  here-kept : (names : List (List ℕ)) (path : Path) (found : Option Rec) → get tree path ≡ found → Leads names path →
      list_all is_writable (told_here (root ∷ names) found) ≡ true → AllByRecursion (IsKeptBelow root) (told_here (root ∷ names) found)
  here-kept names path None e l can = tt
  here-kept names path (Some key) e l can =
      (key-kept names path key l e (and_parts (is_writable (record { names = root ∷ names; key = key })) true can).0, tt)

  -- the keys at or below one, of so many levels
  abbrev told : ℕ → List (List ℕ) → Path → List Told
  told levels names path = told_from levels tree (root ∷ names) path

  abbrev told_child : ℕ → List (List ℕ) → Path → List Told
  told_child levels names child = told levels (names ++ name_of (get tree child) ∷ []) child

  abbrev Keeps : ℕ → Type 0
  Keeps levels =
      (names : List (List ℕ)) (path : Path) → Leads names path → list_all is_writable (told levels names path) ≡ true →
      AllByRecursion (IsKeptBelow root) (told levels names path)

  leads-on : (names : List (List ℕ)) (path : Path) (n : List ℕ) → Leads names path → IsSome (get tree (below path n)) →
      Leads (names ++ name_of (get tree (below path n)) ∷ []) (below path n)
  leads-on names path n l there =
      let name : List ℕ = name_of (get tree (below path n)) in
      let found = some-of (get tree (below path n)) there in
      record {
        at = map-append folded names (name ∷ [])
            ∙ (ap (λ (x : Path). x ++ folded name ∷ []) l.at
            ∙ ap (λ (x : List ℕ). path ++ x ∷ []) (ap (λ (f : Option Rec). folded (name_of f)) found.1 ∙ i.names path n found.0 found.1));
        good = list_all-append is_key_name names (name ∷ [])
            ∙ and_from (list_all is_key_name names) (is_key_name name && true) l.good
            (and_from (is_key_name name) true
            (ap (λ (f : Option Rec). is_key_name (name_of f)) found.1 ∙ (w.keys (below path n) found.0 found.1).name) refl);
      }

  below-kept : (levels : ℕ) → Keeps levels → (names : List (List ℕ)) (path : Path) → Leads names path → (last : List (List ℕ)) →
      AllByRecursion (λ (n : List ℕ). IsSome (get tree (below path n))) last →
      list_all is_writable (flat_map (told_child levels names) (map (below path) last)) ≡ true →
      AllByRecursion (IsKeptBelow root) (flat_map (told_child levels names) (map (below path) last))
  below-kept levels each names path l [] a can = tt
  below-kept levels each names path l (n ∷ last) a can =
      let first : List Told = told_child levels names (below path n) in
      let rest : List Told = flat_map (told_child levels names) (map (below path) last) in
      let both = and_parts (list_all is_writable first) (list_all is_writable rest) (sym (list_all-append is_writable first rest) ∙ can) in
      both-kept root first rest
      (each (names ++ name_of (get tree (below path n)) ∷ []) (below path n) (leads-on names path n l a.0) both.0)
      (below-kept levels each names path l last a.1 both.1)

  all-kept : (levels : ℕ) → Keeps levels
  unfolding told_from
  all-kept zero names path l can = tt
  all-kept (suc levels) names path l can =
      let named = children-named tree path in
      let here : List Told = told_here (root ∷ names) (get tree path) in
      let rest : List Told = flat_map (told_child levels names) (children_of tree path) in
      let both = and_parts (list_all is_writable here) (list_all is_writable rest) (sym (list_all-append is_writable here rest) ∙ can) in
      both-kept root here rest (here-kept names path (get tree path) refl l both.0)
      (subst (λ (x : List Path). AllByRecursion (IsKeptBelow root) (flat_map (told_child levels names) x)) (sym named.are)
      (below-kept levels (all-kept levels) names path l named.names (child-there tree i path named.names named.are)
      (sym (ap (λ (x : List Path). list_all is_writable (flat_map (told_child levels names) x)) named.are) ∙ both.1)))

pub tree-kept : (root : List ℕ) (tree : Tree) (i : IsTree tree) (w : IsWithinLimits tree) (o : IsOfBytes tree) (path : Path) → IsSome (get tree path) →
    CanWrite root tree path → AllByRecursion (IsKeptBelow root) (keys_from root tree path)
unfolding keys_from
tree-kept root tree i w o path there can =
    all-kept tree i w o root (PATH_LIMIT + 1) (names_behind tree [] path) path
    (record { at = behind-folded tree i [] path there; good = behind-good tree i w [] path there }) can
