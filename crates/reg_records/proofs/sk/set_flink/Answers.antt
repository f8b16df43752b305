use Rattle.std.proofs.Common.{lit≤}
use Rattle.byteorder.specs.Endian.{little_bytes}
use Rattle.reg_records.proofs.KeySecurityCodec.{security-room, security-changed, sk-led}
use Rattle.reg_records.proofs.PlainRecords.{plain-led}
use Rattle.reg_records.proofs.sk.set_flink.Goals as goal

pub write_part-requires : goal.write_part-requires
write_part-requires c = rw c.word_bytes.ensures.bytes (security-room _ c.args.cell 8 (lit≤ tt) c.requires)

pub returns-clause-written : goal.returns-clause-written
returns-clause-written c = rw c.word_bytes.ensures.bytes at c.write_part.ensures

pub returns-clause-reads : goal.returns-clause-reads
returns-clause-reads c =
    security-changed 4 (little_bytes 4 c.args.flink) (λ r. record r { fields = record r.fields { flink = c.args.flink } })
    (sk-led c.args.flink c.word_bytes.ensures.fits) _ _ c.args.cell (returns-clause-written c)

pub returns-clause-plain : goal.returns-clause-plain
returns-clause-plain c = plain-led _ _ c.args.cell c.args.flink c.requires (returns-clause-written c)
