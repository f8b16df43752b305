-- What the entries of a key make: the key, where the ones on the way to it are there, with its values.
use Rattle.std.proofs.Common.{◌≡◌, ℕ, true, cond, is_some, List, [], ◌∷◌, ◌++◌, map, drop, Some, None, IsSome}
use Rattle.std.proofs.Common.{refl, sym, ap, ◌∙◌, subst, append-nil}
use Rattle.std.specs.Prelude.{flat_map}
use Rattle.std.specs.List.{list_all}
use Rattle.std.specs.FinMap.{get}
use Rattle.std.proofs.lemmas.List.{map-append}
use Rattle.reg_names.specs.Names.{folded, is_key_name, path_of, text_of}
use Rattle.reg_heap.specs.Paths.{Path, Tree, Rec, Member}
use Rattle.reg_heap.specs.Edits.{with_value, with_key, with_keys, child_path}
use Rattle.reg_heap.specs.Trees.{IsTree, NamesDiffer}
use Rattle.reg_model.proofs.TreesOfChanges.{tree-edited, tree-with_keys, keeps-with}
use Rattle.reg_tree_text.specs.DumpTexts.{Told}
use Rattle.reg_dotreg_reader.specs.declared.entry.Entry.{Entry}
use Rattle.reg_dotreg_import.specs.Imports.{Stand, after_entry, after_entries}
use Rattle.reg_dotreg_law.specs.EntriesDue.{entry_of_value, entries_of_key}
use Rattle.reg_dotreg_law.proofs.SeenKeys.{Seen, seen, is_same, seen-made, one-made}
use Rattle.reg_dotreg_law.proofs.SetValues.{values-set, cond-twice, at-itself}
use Rattle.reg_dotreg_law.proofs.JoinedNames.{names-back}

-- ---- keys in turn

-- where the entries of some keys lead
abbrev pub made_by : ℕ → Stand → List Told → Stand
made_by moment s told = after_entries moment s (flat_map entries_of_key told)

pub after-append : (moment : ℕ) (s : Stand) (xs ys : List Entry) →
    after_entries moment s (xs ++ ys) ≡ after_entries moment (after_entries moment s xs) ys
after-append moment s [] ys = refl
after-append moment s (e ∷ xs) ys = after-append moment (after_entry moment s e) xs ys

pub made-append : (moment : ℕ) (s : Stand) (xs ys : List Told) → made_by moment s (xs ++ ys) ≡ made_by moment (made_by moment s xs) ys
made-append moment s [] ys = refl
made-append moment s (told ∷ xs) ys =
    after-append moment s (entries_of_key told) (flat_map entries_of_key (xs ++ ys))
    ∙ (made-append moment (after_entries moment s (entries_of_key told)) xs ys
    ∙ ap (λ (x : Stand). made_by moment x ys) (sym (after-append moment s (entries_of_key told) (flat_map entries_of_key xs))))

-- ---- a tree stays one

tree-values : (moment : ℕ) (vs : List Member) (s : Stand) → IsTree s.tree → IsTree (after_entries moment s (map entry_of_value vs)).tree
tree-values moment [] s i = i
tree-values moment (v ∷ vs) s i =
    tree-values moment vs (after_entry moment s (entry_of_value v))
    (tree-edited s.tree s.here (with_value v.name v.kind v.bytes moment) i (keeps-with v.name v.kind v.bytes moment))

-- where the line of a key leads
abbrev pub at_key : ℕ → Stand → List (List ℕ) → Stand
at_key moment s names = record {
  tree = with_keys s.tree [] (path_of (text_of names)) None moment;
  here = map folded (path_of (text_of names));
}

tree-told : (moment : ℕ) (told : Told) (s : Stand) → IsTree s.tree → IsTree (after_entries moment s (entries_of_key told)).tree
tree-told moment told s i =
    tree-values moment told.key.values (at_key moment s (drop 1 told.names))
    (tree-with_keys s.tree [] (path_of (text_of (drop 1 told.names))) None moment i i.root)

pub tree-made : (moment : ℕ) (told : List Told) (s : Stand) → IsTree s.tree → IsTree (made_by moment s told).tree
tree-made moment [] s i = i
tree-made moment (t ∷ told) s i =
    subst (λ (x : Stand). IsTree x.tree) (sym (after-append moment s (entries_of_key t) (flat_map entries_of_key told)))
    (tree-made moment told (after_entries moment s (entries_of_key t)) (tree-told moment t s i))

-- ---- a key that is missing

-- where a key comes: it isn't there, and the one above is
pub record Comes (s : Stand) (names : List (List ℕ)) (name : List ℕ) (path : Path) : Type 0 where
  pub is : IsTree s.tree
  pub at : map folded (names ++ name ∷ []) ≡ path
  pub good : list_all is_key_name (names ++ name ∷ []) ≡ true
  pub above : IsSome (get s.tree (map folded names))
  pub missing : get s.tree path ≡ None

module _ (moment : ℕ) (s : Stand) (names : List (List ℕ)) (name : List ℕ) (path : Path) (c : Comes s names name path) where
  ends : child_path (map folded names) name ≡ path
  ends = sym (map-append folded names (name ∷ [])) ∙ c.at

  read : path_of (text_of (names ++ name ∷ [])) ≡ names ++ name ∷ []
  read = names-back (names ++ name ∷ []) c.good

  line-here : (at_key moment s (names ++ name ∷ [])).here ≡ path
  line-here = ap (map folded) read ∙ c.at

  line-tree : (at_key moment s (names ++ name ∷ [])).tree ≡ with_key s.tree (map folded names) name None moment
  line-tree =
      ap (λ (x : List (List ℕ)). with_keys s.tree [] x None moment) read
      ∙ one-made s.tree [] names name moment c.is c.above
      (ap is_some (ap (get s.tree) ends ∙ c.missing))

  line-seen : (q : Path) → seen (at_key moment s (names ++ name ∷ [])).tree q ≡ cond (is_same q path) (Some (name, [])) (seen s.tree q)
  line-seen q =
      ap (λ (t : Tree). seen t q) line-tree
      ∙ (seen-made s.tree (map folded names) name moment q
      ∙ ap (λ (x : Path). cond (is_same q x) (Some (name, [])) (seen s.tree q)) ends)

  -- a key and its values
  pub key-made : (root : List ℕ) (key : Rec) → key.name ≡ name → NamesDiffer key.values → (q : Path) →
      seen (made_by moment s (record { names = root ∷ (names ++ name ∷ []); key = key } ∷ [])).tree q ≡
      cond (is_same q path) (Some (key.name, key.values)) (seen s.tree q)
  key-made root key named apart q =
      let line : Stand = at_key moment s (names ++ name ∷ []) in
      let told : Told = record { names = root ∷ (names ++ name ∷ []); key = key } in
      let here : seen line.tree line.here ≡ Some (name, []) =
      ap (seen line.tree) line-here ∙ (line-seen path ∙ at-itself path (Some (name, [])) (seen s.tree path)) in
      ap (λ (x : List Entry). seen (after_entries moment s x).tree q) (append-nil (entries_of_key told))
      ∙ (values-set moment key.values line name [] here apart q
      ∙ (ap (λ (x : Path). cond (is_same q x) (Some (name, key.values)) (seen line.tree q)) line-here
      ∙ (ap (λ (x : Seen). cond (is_same q path) (Some (name, key.values)) x) (line-seen q)
      ∙ (cond-twice (is_same q path) (Some (name, key.values)) (Some (name, [])) (seen s.tree q)
      ∙ ap (λ (n : List ℕ). cond (is_same q path) (Some (n, key.values)) (seen s.tree q)) (sym named)))))
