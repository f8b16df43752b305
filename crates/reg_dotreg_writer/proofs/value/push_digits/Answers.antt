use Rattle.reg_dotreg_writer.proofs.PieceBytes.{on_ok}
use Rattle.reg_dotreg_writer.proofs.EntryPieces.{two_digits}
use Rattle.reg_dotreg_writer.proofs.value.push_digits.Goals as goal

pub returns : goal.returns
returns c =
    on_ok c.push_character-2.result
    (two_digits c.args.is_utf8 c.args.bytes.now.items _ _ c.args.byte _ _ c.digit.ensures c.digit-2.ensures c.in_ok-push_character.ensures)
    c.push_character-2.ensures
