use Rattle.std.proofs.Common.{lit≤}
use Rattle.byteorder.specs.Endian.{little_bytes}
use Rattle.reg_records.proofs.KeyNodeCodec.{key-room, key-changed}
use Rattle.reg_records.proofs.KeyNodeFieldWrites.{nk-listed}
use Rattle.reg_records.proofs.PlainRecords.{plain-listed}
use Rattle.reg_records.proofs.nk.set_subkeys_list.Goals as goal

pub write_part-requires : goal.write_part-requires
write_part-requires c = rw c.word_bytes.ensures.bytes (key-room _ c.args.cell 32 (lit≤ tt) c.requires)

pub returns-clause-written : goal.returns-clause-written
returns-clause-written c = rw c.word_bytes.ensures.bytes at c.write_part.ensures

pub returns-clause-reads : goal.returns-clause-reads
returns-clause-reads c =
    key-changed 28 (little_bytes 4 c.args.list) (λ r. record r { fields = record r.fields { subkeys_list = c.args.list } })
    (nk-listed c.args.list c.word_bytes.ensures.fits) _ _ c.args.cell (returns-clause-written c)

pub returns-clause-plain : goal.returns-clause-plain
returns-clause-plain c = plain-listed _ _ c.args.cell c.args.list c.requires (returns-clause-written c)
