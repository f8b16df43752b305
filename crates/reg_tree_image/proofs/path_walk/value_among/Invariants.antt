use Rattle.std.proofs.Common.{ℕ, List}
use Rattle.reg_arena.specs.Cells.{cell_at}
use Rattle.reg_records.specs.OffsetRows.{offsets_at}
use Rattle.reg_tree_image.proofs.Readers.PathValues.{AreLeft}
use Rattle.reg_tree_image.proofs.path_walk.value_among.Given as goal

abbrev pub invariant-loop-index : goal.invariant-loop-index
invariant-loop-index l =
    (path : List ℕ) → AreLeft (cell_at l.bins) l.minor path l.name (offsets_at l.count 0 l.row) l.initial.table.states.items l.index l.table.states.items
