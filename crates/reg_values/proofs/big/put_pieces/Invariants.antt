use Rattle.std.proofs.Common.{◌≡◌, length}
use Rattle.reg_arena.specs.Arena.{heap_of}
use Rattle.reg_values.proofs.ValueData.FilledCells.{PiecesFilled}
use Rattle.reg_values.proofs.big.put_pieces.Given as goal

abbrev pub invariant-loop-index : goal.invariant-loop-index
invariant-loop-index l = record {
  filled : PiecesFilled (heap_of l.initial.arena) (heap_of l.arena) l.segments l.bytes l.index;
  long : length l.arena.bytes ≡ length l.initial.arena.bytes;
}
