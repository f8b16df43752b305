use Rattle.reg_arena.specs.Cells.{cell_at}
use Rattle.reg_records.specs.OffsetRows.{offsets_at}
use Rattle.reg_tree_image.proofs.Readers.ValueRows.{AreValuesRead}
use Rattle.reg_tree_image.proofs.value_lists.values_each.Given as goal

abbrev pub invariant-loop-index : goal.invariant-loop-index
invariant-loop-index l =
    AreValuesRead (cell_at l.bins) l.minor (offsets_at l.count 0 l.row) l.initial.table.states.items l.index l.values.items
    l.met.folded.keys l.table.states.items
