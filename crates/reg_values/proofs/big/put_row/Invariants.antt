use Rattle.std.proofs.Common.{◌≡◌, length}
use Rattle.reg_arena.specs.Arena.{heap_of}
use Rattle.reg_values.proofs.ValueData.FilledCells.{RowFilled}
use Rattle.reg_values.proofs.big.put_row.Given as goal

abbrev pub invariant-loop-index : goal.invariant-loop-index
invariant-loop-index l = record {
  filled : RowFilled (heap_of l.initial.arena) (heap_of l.arena) l.list l.segments l.index;
  long : length l.arena.bytes ≡ length l.initial.arena.bytes;
}
