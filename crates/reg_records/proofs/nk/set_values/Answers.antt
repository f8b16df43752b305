use Rattle.std.proofs.Common.{◌++◌, lit≤}
use Rattle.byteorder.specs.Endian.{little_bytes}
use Rattle.reg_records.proofs.KeyNodeCodec.{key-room, key-changed}
use Rattle.reg_records.proofs.KeyNodeFieldWrites.{nk-valued}
use Rattle.reg_records.proofs.PlainRecords.{plain-valued}
use Rattle.reg_records.proofs.nk.set_values.Goals as goal

pub write_part-requires : goal.write_part-requires
write_part-requires c = key-room _ c.args.cell 44 (lit≤ tt) c.requires

pub returns-clause-written : goal.returns-clause-written
returns-clause-written c = rw (c.word_bytes.ensures.bytes, c.word_bytes-2.ensures.bytes) at c.write_part.ensures

pub returns-clause-reads : goal.returns-clause-reads
returns-clause-reads c =
    key-changed 36 (little_bytes 4 c.args.values ++ little_bytes 4 c.args.values_list)
    (λ r. record r { fields = record r.fields { values = c.args.values; values_list = c.args.values_list } })
    (nk-valued c.args.values c.word_bytes.ensures.fits c.args.values_list c.word_bytes-2.ensures.fits) _ _ c.args.cell (returns-clause-written c)

pub returns-clause-plain : goal.returns-clause-plain
returns-clause-plain c = plain-valued _ _ c.args.cell c.args.values c.args.values_list c.requires (returns-clause-written c)
