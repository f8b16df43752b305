-- A list of keys, read.
use Rattle.std.proofs.Common.{◌≡◌, ◌≢◌, ℕ, Some, None, Result, Ok, Err, List, refl, ap, ◌∙◌}
use Rattle.std.specs.Result.{IsErrAnd}
use Rattle.reg_heap.specs.Heaps.{Heap}
use Rattle.reg_heap.specs.Kinds.Kind.{Leaf}
use Rattle.reg_records.specs.SubkeyLists.{Form, SubkeysList, list_of}
use Rattle.reg_records.specs.declared.lists.ListForm.TheVariants.{IndexRoot, IndexLeaf, FastLeaf, HashLeaf}
use Rattle.reg_tree_image.specs.declared.LoadFault.{LoadFault}
use Rattle.reg_tree_image.specs.declared.LoadFault.TheVariants.{Record}
use Rattle.reg_tree_image.specs.declared.table.CellState.{CellState}
use Rattle.reg_tree_image.specs.WalkSteps.{Seen, Step, ◌>>=◌, ◌>>◌, onward, give, given, cell}
use Rattle.reg_tree_image.specs.LoadingWalk.{leaf_as, leaf_from}
use Rattle.reg_tree_image.specs.Internal.CellStates.{IsTable}
use Rattle.reg_tree_image.specs.Internal.ReaderOutcomes.{IsDone, Follows}
use Rattle.reg_tree_image.proofs.Readers.ReaderSteps.{exit-follows}

passes : (form : Form) → form ≢ IndexRoot → (seen : Seen) → leaf_as form seen ≡ Ok (tt, seen)
passes IndexRoot n seen = absurd (n refl)
passes IndexLeaf n seen = refl
passes FastLeaf n seen = refl
passes HashLeaf n seen = refl

module _ {X : Type 0} (heap : Heap) (path : List ℕ) (offset : ℕ) (view : X → List ℕ) (old mid : List CellState) where
  abbrev then : List ℕ → Step SubkeysList
  then content = do
    list ← given Record (list_of content)
    leaf_as list.form
    give list

  pub leaf-exit : {Y : Type 0} (told : Y → SubkeysList) (fault : LoadFault) (r : Result Y LoadFault) → IsErrAnd r (λ e. e ≡ fault) →
      Follows heap path view (cell heap path (λ _. Leaf) offset) old mid (Err fault) → Follows heap path told (leaf_from heap path offset) old mid r
  leaf-exit told fault r i a = exit-follows heap path view told (cell heap path (λ _. Leaf) offset) then old mid mid fault r i a

  module _ (x : X) (a : Follows heap path view (cell heap path (λ _. Leaf) offset) old mid (Ok x)) where
    pub leaf-none : list_of (view x) ≡ None → (seen : Seen) → IsTable heap seen.found path old → leaf_from heap path offset seen ≡ Err Record
    leaf-none e seen t = let d = a seen t in ap (onward then) d.gives ∙ rw e refl

    pub leaf-root : (list : SubkeysList) → list_of (view x) ≡ Some list → list.form ≡ IndexRoot → (seen : Seen) → IsTable heap seen.found path old → leaf_from heap path offset seen ≡ Err Record
    leaf-root list e f seen t = let d = a seen t in ap (onward then) d.gives ∙ rw (e, f) refl

    pub leaf-done : (list : SubkeysList) → list_of (view x) ≡ Some list → list.form ≢ IndexRoot → (seen : Seen) → IsTable heap seen.found path old →
        IsDone heap path (leaf_from heap path offset) seen list mid
    leaf-done list e f seen t =
        let d = a seen t in
        let p = passes list.form f d.after in
        record { after = d.after; gives = ap (onward then) d.gives ∙ rw (e, p) refl; table = d.table; told = d.told }
