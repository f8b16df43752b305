use Rattle.reg_arena.specs.Arena.{heap_of}
use Rattle.reg_values.proofs.ValueData.SegmentReading.{db-read, no-db-fault}
use Rattle.reg_values.proofs.big.big_at.Goals as goal

pub unreachable-requires : goal.unreachable-requires
unreachable-requires c = no-db-fault (heap_of c.args.arena.now) c.args.cell c.content.result.now c.in-Err.field-0 c.content.ensures c.in-Err.ensures c.requires.big

pub returns : goal.returns
returns c = db-read (heap_of c.args.arena.now) c.args.cell c.content.result.now _ c.content.ensures c.in-Ok.ensures
