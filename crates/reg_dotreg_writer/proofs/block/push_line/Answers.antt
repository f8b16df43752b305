use Rattle.reg_dotreg_writer.proofs.PieceBytes.{on_ok}
use Rattle.reg_dotreg_writer.proofs.EntryPieces.{key_line_told}
use Rattle.reg_dotreg_writer.proofs.block.push_line.Goals as goal

pub returns : goal.returns
returns c =
    on_ok c.push_plain-2.result
    (key_line_told c.args.is_utf8 c.args.path.now c.args.bytes.now.items _ _ _ c.in_ok-push_character.ensures c.in_ok-push_plain.ensures)
    c.push_plain-2.ensures
