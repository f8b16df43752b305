use Rattle.reg_records.proofs.RecordWriting.{wrote}
use Rattle.reg_records.proofs.cells.write_part.Goals as goal

pub returns : goal.returns
returns c = wrote _ _ c.args.cell c.args.at c.args.bytes.now c.requires c.write.ensures.written c.write.ensures.cells c.write.ensures.heads c.write.ensures.writes c.write.ensures.long
