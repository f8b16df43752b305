use Rattle.std.proofs.Common.{◌≡◌, ◌&&◌, ◌||◌, drop}
use Rattle.std.specs.FinMap.{get}
use Rattle.std.specs.List.{list_all, list_any}
use Rattle.reg_heap.specs.Paths.{Path}
use Rattle.reg_heap.specs.Edits.{values_at}
use Rattle.reg_tree.specs.TreeKeys.{IsAt, IsResolved}
use Rattle.reg_dotreg_writer.specs.Changes.{is_told}
use Rattle.reg_dotreg_writer.specs.Internal.ChangePieces.{is_fine}
use Rattle.reg_dotreg_writer.proofs.telling.look_over.Given as goal

abbrev pub invariant-loop-index : goal.invariant-loop-index
invariant-loop-index l =
    (p q : Path) → IsAt l.tree p l.node → IsResolved l.other q l.found →
    ((l.seen.is_any || list_any (is_told (get l.other.tree q) l.side) (drop l.index (values_at l.tree.tree p))) ≡
    list_any (is_told (get l.other.tree q) l.side) (values_at l.tree.tree p)) ×
    ((l.seen.are_fine && list_all (is_fine (get l.other.tree q) l.side) (drop l.index (values_at l.tree.tree p))) ≡
    list_all (is_fine (get l.other.tree q) l.side) (values_at l.tree.tree p))
