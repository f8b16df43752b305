use Rattle.reg_dotreg_writer.proofs.PieceBytes.{on_ok}
use Rattle.reg_dotreg_writer.proofs.EntryPieces.{number_digits}
use Rattle.reg_dotreg_writer.proofs.value.push_number.Goals as goal

pub returns : goal.returns
returns c =
    on_ok c.push_digits-4.result
    (number_digits c.args.is_utf8 c.args.content.now c.args.bytes.now.items _ _ _ _ c.requires c.in_ok-push_digits.ensures
    c.in_ok-push_digits-2.ensures c.in_ok-push_digits-3.ensures) c.push_digits-4.ensures
