-- A class, or data in one cell: none of length 0.
use Rattle.std.proofs.Common.{◌≡◌, ℕ, zero, suc, true, List, [], Result, refl, sym, subst}
use Rattle.reg_heap.specs.Heaps.{Heap}
use Rattle.reg_heap.specs.Kinds.Kind.{Class, Data}
use Rattle.reg_records.specs.BigData.{named}
use Rattle.reg_tree_image.specs.declared.LoadFault.{LoadFault}
use Rattle.reg_tree_image.specs.declared.table.CellState.{CellState}
use Rattle.reg_tree_image.specs.WalkSteps.{Seen, give}
use Rattle.reg_tree_image.specs.LoadingWalk.{bytes_from, class_from, far_from}
use Rattle.reg_tree_image.specs.Internal.CellStates.{IsTable}
use Rattle.reg_tree_image.specs.Internal.ReaderOutcomes.{IsDone, Follows}

module _ (heap : Heap) (path : List ℕ) (offset : ℕ) (old : List CellState) where
  -- nothing is named
  none-done : (seen : Seen) → IsTable heap seen.found path old → IsDone {A = List ℕ} heap path (give []) seen [] old
  none-done seen t = record { after = seen; gives = refl; table = t; told = refl }

  pub class-none : (size : ℕ) → size ≡ 0 → (seen : Seen) → IsTable heap seen.found path old → IsDone heap path (class_from heap path size offset) seen [] old
  class-none size z seen t = subst (λ n. IsDone heap path (class_from heap path n offset) seen [] old) (sym z) (none-done seen t)

  pub data-none : (size : ℕ) → size ≡ 0 → (seen : Seen) → IsTable heap seen.found path old → IsDone heap path (far_from heap path true size offset) seen [] old
  data-none size z seen t = subst (λ n. IsDone heap path (far_from heap path true n offset) seen [] old) (sym z) (none-done seen t)

module _ {X : Type 0} (heap : Heap) (path : List ℕ) (view : X → List ℕ) (offset : ℕ) (old new : List CellState) where
  pub class-some : (size n : ℕ) (r : Result X LoadFault) → (size ≡ 0 → ⊥) → n ≡ size → Follows heap path view (bytes_from heap path (named Class n offset)) old new r →
      Follows heap path view (class_from heap path size offset) old new r
  class-some zero n r z e f = absurd (z refl)
  class-some (suc k) n r z e f = subst (λ n. Follows heap path view (bytes_from heap path (named Class n offset)) old new r) e f

  pub data-some : (size n : ℕ) (r : Result X LoadFault) → (size ≡ 0 → ⊥) → n ≡ size → Follows heap path view (bytes_from heap path (named Data n offset)) old new r →
      Follows heap path view (far_from heap path true size offset) old new r
  data-some zero n r z e f = absurd (z refl)
  data-some (suc k) n r z e f = subst (λ n. Follows heap path view (bytes_from heap path (named Data n offset)) old new r) e f
