use Rattle.std.proofs.Common.{◌≡◌, length}
use Rattle.reg_arena.specs.Arena.{heap_of}
use Rattle.reg_values.proofs.ValueFreeing.ClearedLists.{AreFreed}
use Rattle.reg_values.proofs.removing.clear.Given as goal

abbrev pub invariant-loop-index : goal.invariant-loop-index
invariant-loop-index l = record {
  freed : AreFreed (heap_of l.initial.arena) (heap_of l.arena) l.list.count l.list.offset l.index;
  long : length l.arena.bytes ≡ length l.initial.arena.bytes;
}
