use Rattle.reg_arena.specs.Arena.{heap_of}
use Rattle.reg_values.proofs.ValueListing.FoundValues.{record-there, record-reads, record-is}
use Rattle.reg_values.proofs.finding.name_at.Goals as goal

pub content-requires : goal.content-requires
content-requires c = record-there (heap_of c.args.arena.now) c.args.cell c.requires

pub vk_name-requires : goal.vk_name-requires
vk_name-requires c = record-reads (heap_of c.args.arena.now) c.args.cell c.content.result.now c.content.ensures c.requires

pub returns : goal.returns
returns c = λ record_is e.
    c.vk_name.ensures record_is (record-is (heap_of c.args.arena.now) c.args.cell c.content.result.now record_is c.content.ensures e)
