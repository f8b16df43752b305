use Rattle.std.proofs.Common.{lit≤}
use Rattle.byteorder.specs.Endian.{little_bytes}
use Rattle.reg_records.proofs.KeyNodeCodec.{key-room, key-changed}
use Rattle.reg_records.proofs.KeyNodeFieldWrites.{nk-timed}
use Rattle.reg_records.proofs.PlainRecords.{plain-timed}
use Rattle.reg_records.proofs.nk.set_time.Goals as goal

pub write_part-requires : goal.write_part-requires
write_part-requires c = rw c.long_bytes.ensures.bytes (key-room _ c.args.cell 12 (lit≤ tt) c.requires)

pub returns-clause-written : goal.returns-clause-written
returns-clause-written c = rw c.long_bytes.ensures.bytes at c.write_part.ensures

pub returns-clause-reads : goal.returns-clause-reads
returns-clause-reads c =
    key-changed 4 (little_bytes 8 c.args.time) (λ r. record r { fields = record r.fields { time = c.args.time } })
    (nk-timed c.args.time c.long_bytes.ensures.fits) _ _ c.args.cell (returns-clause-written c)

pub returns-clause-plain : goal.returns-clause-plain
returns-clause-plain c = plain-timed _ _ c.args.cell c.args.time c.requires (returns-clause-written c)
