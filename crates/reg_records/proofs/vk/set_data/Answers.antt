use Rattle.std.proofs.Common.{◌++◌, lit≤}
use Rattle.byteorder.specs.Endian.{little_bytes}
use Rattle.reg_records.proofs.KeyValueCodec.{value-room, value-changed, vk-filled}
use Rattle.reg_records.proofs.PlainRecords.{plain-data}
use Rattle.reg_records.proofs.vk.set_data.Goals as goal

pub write_part-requires : goal.write_part-requires
write_part-requires c = value-room _ c.args.cell 16 (lit≤ tt) c.requires

pub returns-clause-written : goal.returns-clause-written
returns-clause-written c = rw (c.word_bytes.ensures.bytes, c.word_bytes-2.ensures.bytes, c.word_bytes-3.ensures.bytes) at c.write_part.ensures

pub returns-clause-reads : goal.returns-clause-reads
returns-clause-reads c =
    value-changed 4 (little_bytes 4 c.args.size ++ little_bytes 4 c.args.offset ++ little_bytes 4 c.args.kind)
    (λ r. record r { fields = record r.fields { size = c.args.size; offset = c.args.offset; kind = c.args.kind } })
    (vk-filled c.args.size c.word_bytes.ensures.fits c.args.offset c.word_bytes-2.ensures.fits c.args.kind c.word_bytes-3.ensures.fits) _ _ c.args.cell (returns-clause-written c)

pub returns-clause-plain : goal.returns-clause-plain
returns-clause-plain c = plain-data _ _ c.args.cell c.args.size c.args.offset c.args.kind c.requires (returns-clause-written c)
