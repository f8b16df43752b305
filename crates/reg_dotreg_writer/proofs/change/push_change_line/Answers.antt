use Rattle.reg_dotreg_writer.specs.Changes.{rooted}
use Rattle.reg_dotreg_writer.proofs.PieceBytes.{on_ok}
use Rattle.reg_dotreg_writer.proofs.ChangeLines.{change_line_told}
use Rattle.reg_dotreg_writer.proofs.change.push_change_line.Goals as goal

pub returns : goal.returns
returns c =
    on_ok c.push_plain.result
    (change_line_told c.args.is_utf8 c.args.is_gone (rooted c.args.root.now c.args.path.now) c.args.bytes.now.items _ _ _
    c.in_ok-push_opening.ensures c.in_ok-push_rooted.ensures)
    c.push_plain.ensures
