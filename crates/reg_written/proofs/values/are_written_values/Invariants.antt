use Rattle.std.proofs.Common.{◌≡◌, drop}
use Rattle.std.specs.List.{list_all}
use Rattle.reg_arena.specs.Cells.{cell_at}
use Rattle.reg_records.specs.RecordCells.{held}
use Rattle.reg_records.specs.OffsetRows.{offsets_at}
use Rattle.reg_written.specs.Internal.KeyTests.{is_value_at}
use Rattle.reg_written.proofs.values.are_written_values.Given as goal

abbrev pub invariant-loop-index : goal.invariant-loop-index
invariant-loop-index l =
    list_all (is_value_at (cell_at l.bins) l.key) (drop l.index (offsets_at l.key.values 0 (held (cell_at l.bins) l.key.values_list)))
    ≡ list_all (is_value_at (cell_at l.bins) l.key) (offsets_at l.key.values 0 (held (cell_at l.bins) l.key.values_list))
