use Rattle.std.proofs.Common.{◌≡◌, length, take}
use Rattle.reg_heap.specs.Heaps.{GivesUp}
use Rattle.reg_arena.specs.Arena.{heap_of}
use Rattle.reg_records.specs.RecordCells.{held}
use Rattle.reg_records.specs.OffsetRows.{offsets_at}
use Rattle.reg_values.proofs.big.free_segments.Given as goal

abbrev pub invariant-loop-index : goal.invariant-loop-index
invariant-loop-index l = record {
  gone : GivesUp (heap_of l.initial.arena) (heap_of l.arena) (take l.index (offsets_at l.count 0 (held (heap_of l.initial.arena) l.list)));
  long : length l.arena.bytes ≡ length l.initial.arena.bytes;
}
