use Rattle.reg_records.proofs.RecordWriting.{wrote_record}
use Rattle.reg_records.proofs.cells.write_record.Goals as goal

pub returns : goal.returns
returns c = wrote_record _ _ _ c.args.cell c.args.head.now c.args.tail.now c.write_part.ensures c.write_part-2.ensures
