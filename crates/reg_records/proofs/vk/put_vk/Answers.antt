use Rattle.reg_records.specs.KeyValues.{vk_bytes}
use Rattle.reg_records.proofs.KeyValueCodec.{value_record_at-written}
use Rattle.reg_records.proofs.PlainRecords.{plain-value}
use Rattle.reg_records.proofs.vk.put_vk.Goals as goal

pub returns-clause-written : goal.returns-clause-written
unfolding vk_bytes
returns-clause-written c = rw c.head-head.ensures.bytes at c.write_record.ensures

pub returns-clause-reads : goal.returns-clause-reads
returns-clause-reads c =
    value_record_at-written _ _ c.args.cell c.args.fields.now c.args.name.now _ (returns-clause-written c) c.head-head.ensures.fits c.requires.name

pub returns-clause-plain : goal.returns-clause-plain
returns-clause-plain c = plain-value _ _ c.args.cell _ c.args.fields.now c.args.name.now (returns-clause-written c)
