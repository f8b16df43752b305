use Rattle.std.proofs.Common.{arith}
use Rattle.std.proofs.lemmas.Bool.Decides.{nat_tests}
use Rattle.reg_dotreg_writer.proofs.PieceBytes.{on_ok}
use Rattle.reg_dotreg_writer.proofs.EntryPieces.{name_some}
use Rattle.reg_dotreg_writer.proofs.value.push_name.Goals as goal

pub returns : goal.returns
returns c =
    on_ok c.push_character-3.result
    (name_some c.args.is_utf8 c.args.name.now c.args.bytes.now.items _ _ _ (grind (arith, nat_tests, c.is_empty.ensures, c.if-is_empty.false))
    c.in_ok-push_character.ensures c.in_ok-push_between.ensures) c.push_character-3.ensures
