use Rattle.std.proofs.Common.{arith, ◌+◌, length}
use Rattle.reg_records.specs.KeySecurities.{sk_bytes}
use Rattle.reg_records.proofs.KeySecurityCodec.{security_at-written}
use Rattle.reg_records.proofs.PlainRecords.{plain-security}
use Rattle.reg_records.proofs.sk.put_sk.Goals as goal

pub returns-clause-written : goal.returns-clause-written
unfolding sk_bytes
returns-clause-written c = rw c.head-head.ensures.bytes at c.write_record.ensures

pub returns-clause-reads : goal.returns-clause-reads
returns-clause-reads c =
    security_at-written _ _ c.args.cell c.args.fields.now c.args.descriptor.now _ (returns-clause-written c) c.head-head.ensures.fits
    (let l = c.room_is_small.ensures c.args.cell (20 + length c.args.descriptor.now) c.requires.room in omega (arith, l))

pub returns-clause-plain : goal.returns-clause-plain
returns-clause-plain c = plain-security _ _ c.args.cell _ c.args.fields.now c.args.descriptor.now (returns-clause-written c)

pub overflow_cast-descriptor : goal.overflow_cast-descriptor
overflow_cast-descriptor c = (let l = c.room_is_small.ensures c.args.cell (20 + length c.args.descriptor.now) c.requires.room in omega (arith, l))
