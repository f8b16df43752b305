use Rattle.std.proofs.Common.{refl}
use Rattle.reg_arena.specs.Arena.{heap_of}
use Rattle.reg_values.proofs.ValueData.FilledCells.{row-none, row-all}
use Rattle.reg_values.proofs.big.put_row.Goals as goal

pub loop-index-init : goal.loop-index-init
loop-index-init c = record {
  filled = row-none (heap_of c.args.arena.now) c.args.list c.args.segments.now;
  long = refl;
}

pub returns-clause-row : goal.returns-clause-row
returns-clause-row c = row-all (heap_of c.args.arena.now) (heap_of c.loop-index.arena) c.args.list c.args.segments.now c.loop-index.index c.loop-index-test.false c.loop-index.invariant.filled
