use Rattle.std.proofs.Common.{◌≡◌, ◌+◌, length}
use Rattle.reg_arena.specs.Cells.{cell_at}
use Rattle.reg_tree_image.proofs.Readers.BigSegments.{AreCopied}
use Rattle.reg_tree_image.proofs.big_data.pieces_from.Given as goal

abbrev pub invariant-loop-index : goal.invariant-loop-index
invariant-loop-index l =
    AreCopied (cell_at l.bins) l.row l.count l.size l.index l.left l.bytes.items l.initial.table.states.items l.table.states.items
    × (length l.bytes.items + l.left ≡ l.size)
