use Rattle.reg_dotreg_writer.specs.Entries.{heading}
use Rattle.reg_dotreg_writer.proofs.PieceBytes.{on_ok}
use Rattle.reg_dotreg_writer.proofs.FileSteps.{heading_told}
use Rattle.reg_dotreg_writer.proofs.exporting.push_heading.Goals as goal

pub returns : goal.returns
unfolding heading
returns c = on_ok c.push_plain.result (heading_told c.args.is_utf8 c.args.bytes.now.items _ _ c.in_ok-push_mark.ensures) c.push_plain.ensures
