-- What the entries of a whole tree make of one with the root alone: the tree again.
use Rattle.std.proofs.Common.{◌≡◌, ℕ, suc, Bool, true, false, cond, is_some, List, [], ◌∷◌, ◌++◌, map, Option, Some, None, IsSome}
use Rattle.std.proofs.Common.{refl, sym, ap, ◌∙◌, subst, arith, append-nil}
use Rattle.std.specs.Prelude.{flat_map}
use Rattle.std.specs.FinMap.{get}
use Rattle.std.proofs.lemmas.Bool.{false≢true}
use Rattle.reg_names.specs.declared.TheConstants.{PATH_LIMIT}
use Rattle.reg_names.specs.Names.{folded}
use Rattle.reg_heap.specs.Paths.{Path, Tree, Rec, Member, children_of}
use Rattle.reg_heap.specs.Edits.{values_of, values_at}
use Rattle.reg_heap.specs.Trees.{IsTree, IsWithinLimits, NamesDiffer}
use Rattle.reg_heap.proofs.ChildrenOfPath.{below, children-named}
use Rattle.reg_model.proofs.TreesOfChanges.{some-of}
use Rattle.reg_tree_text.specs.DumpTexts.{Told, name_of, told_here, told_from}
use Rattle.reg_dotreg_writer.specs.Entries.{keys_from}
use Rattle.reg_dotreg_reader.specs.declared.entry.Entry.{Entry}
use Rattle.reg_dotreg_import.specs.Imports.{Stand, after_entries, begun, imported}
use Rattle.reg_dotreg_law.specs.EntriesDue.{entries_of_key, entries_due}
use Rattle.reg_dotreg_law.specs.MadeAgain.{IsBare, HasSame}
use Rattle.reg_dotreg_law.proofs.SeenKeys.{Seen, seen, shown, is_same, values_seen, values-shown, name_seen, name-shown, some-shown}
use Rattle.reg_dotreg_law.proofs.SeenKeys.{same-values, same-name, same-there}
use Rattle.reg_dotreg_law.proofs.SetValues.{values-set}
use Rattle.reg_dotreg_law.proofs.MadeKeys.{made_by, made-append, tree-made}
use Rattle.reg_dotreg_law.proofs.ChildPaths.{is_within_any, outside}
use Rattle.reg_dotreg_law.proofs.MadeTrees.{none-shown, AreMissing, Enough, told_child, makes-all, below-made}

-- the root alone is a tree
pub bare-tree : (t : Tree) → IsBare t → IsTree t
bare-tree t b = record { root = b.root; parents = parents; names = names; apart = apart }
  where
    gone : (n : List ℕ) (rest : Path) (r : Rec) → get t (n ∷ rest) ≡ Some r → ⊥
    gone n rest r e = let none : None ≡ Some r = sym (b.alone n rest) ∙ e in absurd (cc)

    parents : (p : Path) (name : List ℕ) → IsSome (get t (p ++ name ∷ [])) → IsSome (get t p)
    parents [] name h = b.root
    parents (n ∷ p) name h = absurd (false≢true (sym (ap is_some (b.alone n (p ++ name ∷ []))) ∙ h))

    names : (p : Path) (name : List ℕ) (r : Rec) → get t (p ++ name ∷ []) ≡ Some r → folded r.name ≡ name
    names [] name r e = absurd (gone name [] r e)
    names (n ∷ p) name r e = absurd (gone n (p ++ name ∷ []) r e)

    apart : (p : Path) (r : Rec) → get t p ≡ Some r → NamesDiffer r.values
    apart [] r e = subst NamesDiffer (sym b.values ∙ ap values_of e) tt
    apart (n ∷ p) r e = absurd (gone n p r e)

module _ (tree : Tree) (i : IsTree tree) (limits : IsWithinLimits tree) (moment : ℕ) (bare : Tree) (b : IsBare bare) where
  root : (r : Rec) × (get tree [] ≡ Some r)
  root = some-of (get tree []) i.root

  bare_root : (r : Rec) × (get bare [] ≡ Some r)
  bare_root = some-of (get bare []) b.root

  abbrev told_root : Told
  told_root = record { names = name_of (get tree []) ∷ []; key = root.0 }

  abbrev root_told : List Told
  root_told = told_root ∷ []

  abbrev first : Stand
  first = made_by moment (begun bare) root_told

  abbrev root_seen : Seen
  root_seen = Some (bare_root.0.name, root.0.values)

  bare-seen : seen bare [] ≡ Some (bare_root.0.name, [])
  bare-seen =
      ap shown bare_root.1
      ∙ ap (λ (x : List Member). Some (bare_root.0.name, x)) (sym (ap values_of bare_root.1) ∙ b.values)

  -- the root with its values
  root-made : (q : Path) → seen first.tree q ≡ cond (is_same q []) root_seen (seen bare q)
  root-made q =
      ap (λ (x : List Entry). seen (after_entries moment (begun bare) x).tree q) (append-nil (entries_of_key told_root))
      ∙ values-set moment root.0.values (begun bare) bare_root.0.name [] bare-seen (i.apart [] root.0 root.1) q

  all-missing : (names : List (List ℕ)) → AreMissing first.tree [] names
  all-missing [] = tt
  all-missing (n ∷ names) = (none-shown (get first.tree (n ∷ [])) (root-made (n ∷ []) ∙ ap shown (b.alone n [])), all-missing names)

  root-there : IsSome (get first.tree [])
  root-there = sym (some-shown (get first.tree [])) ∙ ap (λ (x : Seen). is_some x) (root-made [])

  -- the root, and the keys below it
  abbrev IsWhole : Tree → Path → Type 0
  IsWhole new q = seen new q ≡ cond (is_within_any (children_of tree []) q) (seen tree q) (cond (is_same q []) root_seen (seen bare q))

  whole : (levels : ℕ) → Enough tree (suc levels) [] → (q : Path) →
      IsWhole (made_by moment (begun bare) (told_from (suc levels) tree (name_of (get tree []) ∷ []) [])).tree q
  unfolding told_from
  whole levels enough q =
      let name : List ℕ = name_of (get tree []) in
      let rest : List Told = flat_map (told_child tree i limits moment name levels []) (children_of tree []) in
      ap (λ (o : Option Rec). seen (made_by moment (begun bare) (told_here (name ∷ []) o ++ rest)).tree q) root.1
      ∙ (ap (λ (x : Stand). seen x.tree q) (made-append moment (begun bare) root_told rest)
      ∙ (below-made tree i limits moment name levels (makes-all tree i limits moment name levels) [] [] refl refl enough i.root
      first (tree-made moment root_told (begun bare) (bare-tree bare b)) root-there all-missing q
      ∙ ap (λ (x : Seen). cond (is_within_any (children_of tree []) q) (seen tree q) x) (root-made q)))

  abbrev new : Tree
  new = imported moment bare (entries_due tree)

  seen-new : (q : Path) → IsWhole new q
  unfolding keys_from
  seen-new q = whole PATH_LIMIT (λ rest h. let l = limits.shallow rest h in omega (arith, l)) q

  -- ---- at the root

  none-within : (names : List (List ℕ)) → is_within_any (map (below []) names) [] ≡ false
  none-within [] = refl
  none-within (n ∷ names) = none-within names

  at-root : seen new [] ≡ root_seen
  at-root =
      let named = children-named tree [] in
      seen-new []
      ∙ ap (λ (a : Bool). cond a (seen tree []) root_seen) (ap (λ (x : List Path). is_within_any x []) named.are ∙ none-within named.names)

  -- ---- below it

  below-same : (n : List ℕ) (rest : Path) → seen new (n ∷ rest) ≡ seen tree (n ∷ rest)
  below-same n rest = seen-new (n ∷ rest) ∙ by (is_within_any (children_of tree []) (n ∷ rest)) refl
    where
      by : (a : Bool) → is_within_any (children_of tree []) (n ∷ rest) ≡ a →
          cond a (seen tree (n ∷ rest)) (cond (is_same (n ∷ rest) []) root_seen (seen bare (n ∷ rest))) ≡ seen tree (n ∷ rest)
      by true e = refl
      by false e = ap shown (b.alone n rest) ∙ sym (ap shown (outside tree i [] n rest e))

  same-keys : (path : Path) → is_some (get new path) ≡ is_some (get tree path)
  same-keys [] = sym (some-shown (get new [])) ∙ (ap (λ (x : Seen). is_some x) at-root ∙ sym (ap is_some root.1))
  same-keys (n ∷ rest) = same-there (get new (n ∷ rest)) (get tree (n ∷ rest)) (below-same n rest)

  all-values : (path : Path) → values_at new path ≡ values_at tree path
  all-values [] = values-shown (get new []) ∙ (ap values_seen at-root ∙ sym (ap values_of root.1))
  all-values (n ∷ rest) = same-values (get new (n ∷ rest)) (get tree (n ∷ rest)) (below-same n rest)

  pub made-again : HasSame new tree
  made-again = record {
    keys = same-keys;
    values = all-values;
    names = λ n rest. same-name (get new (n ∷ rest)) (get tree (n ∷ rest)) (below-same n rest);
  }

  -- the root keeps its name
  pub root-named : name_of (get new []) ≡ name_of (get bare [])
  root-named = name-shown (get new []) ∙ (ap name_seen at-root ∙ sym (ap name_of bare_root.1))

  pub tree-again : IsTree new
  tree-again = tree-made moment (keys_from (name_of (get tree [])) tree []) (begun bare) (bare-tree bare b)
