use Rattle.reg_records.specs.BigData.{db_bytes}
use Rattle.reg_records.proofs.BigDataCodec.{db-written}
use Rattle.reg_records.proofs.db.put_db.Goals as goal

pub returns-clause-written : goal.returns-clause-written
unfolding db_bytes
returns-clause-written c = rw c.head-head.ensures.bytes at c.write_record.ensures

pub returns-clause-reads : goal.returns-clause-reads
returns-clause-reads c =
    db-written _ _ c.args.cell c.args.fields.now.count c.args.fields.now.list _ (returns-clause-written c) c.head-head.ensures.count c.head-head.ensures.list
