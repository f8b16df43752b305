use Rattle.reg_arena.specs.Arena.{heap_of}
use Rattle.reg_records.proofs.KeyValueCodec.{value_record_at-made}
use Rattle.reg_values.proofs.ValueListing.FoundValues.{record-there, no-fault}
use Rattle.reg_values.proofs.finding.record_at.Goals as goal

pub content-requires : goal.content-requires
content-requires c = record-there (heap_of c.args.arena.now) c.args.cell c.requires

pub unreachable-requires : goal.unreachable-requires
unreachable-requires c = no-fault (heap_of c.args.arena.now) c.args.cell c.content.result.now c.in-Err.field-0 c.content.ensures c.in-Err.ensures c.requires

pub returns : goal.returns
returns c = value_record_at-made (heap_of c.args.arena.now) c.args.cell c.content.result.now _ c.content.ensures c.in-Ok.ensures
