use Rattle.reg_records.specs.KeyNodes.{nk_bytes}
use Rattle.reg_records.proofs.KeyNodeCodec.{key_at-written}
use Rattle.reg_records.proofs.PlainRecords.{plain-key}
use Rattle.reg_records.proofs.nk.put_nk.Goals as goal

pub returns-clause-written : goal.returns-clause-written
unfolding nk_bytes
returns-clause-written c = rw c.head-head.ensures.bytes at c.write_record.ensures

pub returns-clause-reads : goal.returns-clause-reads
returns-clause-reads c =
    key_at-written _ _ c.args.cell c.args.fields.now c.args.name.now _ (returns-clause-written c) c.head-head.ensures.fits c.requires.name c.requires.profile

pub returns-clause-plain : goal.returns-clause-plain
returns-clause-plain c = plain-key _ _ c.args.cell _ c.args.fields.now c.args.name.now (returns-clause-written c)
