use Rattle.std.proofs.Common.{◌≡◌, length}
use Rattle.reg_arena.specs.Arena.{heap_of}
use Rattle.reg_values.specs.NewValues.{all_told}
use Rattle.reg_values.proofs.ValueChanges.ValuesFilled.{AreFilled}
use Rattle.reg_values.proofs.making.fill.Given as goal

abbrev pub invariant-loop-index : goal.invariant-loop-index
invariant-loop-index l = record {
  filled : AreFilled (heap_of l.initial.arena) (heap_of l.arena) l.list l.first l.cells (all_told l.values) l.index l.from;
  long : length l.arena.bytes ≡ length l.initial.arena.bytes;
}
