-- The longest name among a key's subkeys.
use Rattle.std.proofs.Common.{◌≡◌, ℕ, suc, ◌<◌, List, [], ◌∷◌, length, get_or, max, refl, sym, ap, ◌∙◌, arith}
use Rattle.std.specs.List.{fold}
use Rattle.std.specs.FinMap.{get}
use Rattle.reg_heap.specs.Paths.{Tree, Path, children_of}
use Rattle.reg_heap.specs.Heaps.{Heap}
use Rattle.reg_arena.specs.Cells.{cell_at}
use Rattle.reg_records.specs.SubkeyLists.{Entry}
use Rattle.reg_shape.specs.Nodes.{entries_of}
use Rattle.reg_shape.proofs.Refinement.RefinementAtPath.{name-written}
use Rattle.reg_index.specs.Subkeys.{AreSubkeys, name_at, name_or_none}
use Rattle.reg_index.proofs.SubkeysOpening.{same-subkeys}
use Rattle.reg_tree.specs.SubkeyWalk.{name_length}
use Rattle.reg_tree.specs.TreeKeys.{tree_in}
use Rattle.reg_tree.specs.Internal.TreeInvariant.{IsHere}
use Rattle.reg_tree.specs.Internal.KeyNodeChanges.{HasSubkeysList}
use Rattle.reg_tree.proofs.Invariant.KeyOfTree.{branch, key_is, rec_there, seen}
use Rattle.reg_tree.proofs.InsertKey.SubkeyByName.{no_entry}
use Rattle.reg_tree.proofs.KeyAnswers.RefinementOfKey.{number_told, subkey_told}
use Rattle.reg_tree.proofs.PathWalk.SubkeysFound.{subkeys}

-- what is largest of two lists is the same where they are as long and tell the same at each index
largest-alike : {X Y : Type 0} (f : X → ℕ) (g : Y → ℕ) (d : X) (e : Y) (xs : List X) (ys : List Y) (largest : ℕ) → length xs ≡ length ys →
    ((i : ℕ) → i < length xs → f (get_or xs i d) ≡ g (get_or ys i e)) →
    fold (λ a (x : X). max a (f x)) largest xs ≡ fold (λ a (y : Y). max a (g y)) largest ys
largest-alike f g d e [] [] largest n same = refl
largest-alike f g d e [] (y ∷ ys) largest n same = absurd (omega (arith, n))
largest-alike f g d e (x ∷ xs) [] largest n same = absurd (omega (arith, n))
largest-alike {X} {Y} f g d e (x ∷ xs) (y ∷ ys) largest n same =
    largest-alike f g d e xs ys (max largest (f x)) (omega (arith, n)) (λ i l. same (suc i) (omega (arith, l)))
    ∙ ap (λ k. fold (λ a (y : Y). max a (g y)) (max largest k) ys) (same 0 (omega arith))

module _ (bytes : List ℕ) (key : ℕ) (t : IsHere bytes key) (count list : ℕ) (has : HasSubkeysList (cell_at bytes) key count list) where
  abbrev h : Heap
  h = cell_at bytes

  abbrev tree : Tree
  tree = tree_in bytes t.root

  abbrev entries : List Entry
  entries = entries_of (branch bytes key t).node.index

  abbrev child : ℕ → ℕ
  child i = (get_or entries i no_entry).offset

  child-here : (i : ℕ) → i < count → IsHere bytes (child i)
  child-here i l = record {
    root = t.root;
    table = t.table;
    path = get_or (children_of tree t.path) i [];
    holds = t.holds;
    at = (subkey_told bytes key t count list has (record { offset = key; depth = 0 }) i (child i) l
        (λ es s. ap (λ (es : List Entry). (get_or es i no_entry).offset) (same-subkeys h count list es entries s (subkeys bytes key t count list has)))).1;
  }

  child-name : (i : ℕ) → i < count → length (name_at h (child i)) ≡ name_length (get tree (get_or (children_of tree t.path) i []))
  unfolding child-here
  child-name i l =
      let here = child-here i l in
      let b = branch bytes (child i) here in
      ap (λ o. length (name_or_none o)) (key_is bytes (child i) here)
      ∙ (ap length (sym (name-written h t.root b.offset b.node (seen bytes (child i) here).written)) ∙ ap name_length (sym (rec_there bytes (child i) here)))

  pub longest_told : (longest : ℕ) → ((es : List Entry) → AreSubkeys h count list es → longest ≡ fold (λ a (e : Entry). max a (length (name_at h e.offset))) 0 es) →
      longest ≡ fold (λ a (q : Path). max a (name_length (get tree q))) 0 (children_of tree t.path)
  longest_told longest is =
      let s = subkeys bytes key t count list has in
      let n = number_told bytes key t count list has in
      is entries s
      ∙ largest-alike (λ (e : Entry). length (name_at h e.offset)) (λ (q : Path). name_length (get tree q)) no_entry [] entries (children_of tree t.path) 0
      (s.number ∙ n) (λ i l. child-name i (omega (arith, l, s.number)))
