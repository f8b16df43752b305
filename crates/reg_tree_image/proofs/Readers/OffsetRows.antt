-- A row of offsets, read.
use Rattle.std.proofs.Common.{◌≡◌, ℕ, ◌*◌, ◌<◌, ◌≤◌, nat_le, true, false, Some, None, Result, Ok, Err, List, length, refl, ap, ◌∙◌, arith}
use Rattle.std.specs.Result.{IsErrAnd}
use Rattle.std.proofs.lemmas.Bool.Decides.{nat_tests}
use Rattle.reg_heap.specs.Heaps.{Heap}
use Rattle.reg_heap.specs.Kinds.{Kind}
use Rattle.reg_records.specs.OffsetRows.{row_in, offsets_at}
use Rattle.reg_tree_image.specs.declared.LoadFault.{LoadFault}
use Rattle.reg_tree_image.specs.declared.LoadFault.TheVariants.{Record}
use Rattle.reg_tree_image.specs.declared.table.CellState.{CellState}
use Rattle.reg_tree_image.specs.WalkSteps.{Seen, Step, onward, given, cell}
use Rattle.reg_tree_image.specs.LoadingWalk.{row_from}
use Rattle.reg_tree_image.specs.Internal.CellStates.{IsTable}
use Rattle.reg_tree_image.specs.Internal.ReaderOutcomes.{IsDone, Follows}
use Rattle.reg_tree_image.proofs.Readers.ReaderSteps.{exit-follows}

row-none : (count : ℕ) (content : List ℕ) → length content < 4 * count → row_in count content ≡ None
unfolding row_in
row-none count content l = let b : nat_le (4 * count) (length content) ≡ false = less (4 * count) (length content) l in rw b refl
  where
    less : (a b : ℕ) → b < a → nat_le a b ≡ false
    less a b l = grind (arith, nat_tests)

row-some : (count : ℕ) (content : List ℕ) → 4 * count ≤ length content → row_in count content ≡ Some (offsets_at count 0 content)
unfolding row_in
row-some count content l = let b : nat_le (4 * count) (length content) ≡ true = less (4 * count) (length content) l in rw b refl
  where
    less : (a b : ℕ) → a ≤ b → nat_le a b ≡ true
    less a b l = grind (arith, nat_tests)

module _ {X : Type 0} (heap : Heap) (path : List ℕ) (kind : Kind) (count offset : ℕ) (view : X → List ℕ) (old mid : List CellState) where
  abbrev then : List ℕ → Step (List ℕ)
  then content = given Record (row_in count content)

  pub row-exit : {Y : Type 0} (told : Y → List ℕ) (fault : LoadFault) (r : Result Y LoadFault) → IsErrAnd r (λ e. e ≡ fault) →
      Follows heap path view (cell heap path (λ _. kind) offset) old mid (Err fault) → Follows heap path told (row_from heap path kind count offset) old mid r
  row-exit told fault r i a = exit-follows heap path view told (cell heap path (λ _. kind) offset) then old mid mid fault r i a

  pub row-short : (x : X) → Follows heap path view (cell heap path (λ _. kind) offset) old mid (Ok x) → length (view x) < 4 * count →
      (seen : Seen) → IsTable heap seen.found path old → row_from heap path kind count offset seen ≡ Err Record
  row-short x a l seen t = let d = a seen t in ap (onward then) d.gives ∙ ap (λ o. given Record o d.after) (row-none count (view x) l)

  pub row-done : (x : X) → Follows heap path view (cell heap path (λ _. kind) offset) old mid (Ok x) → 4 * count ≤ length (view x) →
      (seen : Seen) → IsTable heap seen.found path old → IsDone heap path (row_from heap path kind count offset) seen (offsets_at count 0 (view x)) mid
  row-done x a l seen t =
      let d = a seen t in
      record { after = d.after; gives = ap (onward then) d.gives ∙ ap (λ o. given Record o d.after) (row-some count (view x) l); table = d.table; told = d.told }
