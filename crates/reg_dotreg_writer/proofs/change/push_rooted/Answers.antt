use Rattle.std.proofs.Common.{arith}
use Rattle.std.proofs.lemmas.Bool.Decides.{nat_tests}
use Rattle.reg_dotreg_writer.proofs.PieceBytes.{on_ok}
use Rattle.reg_dotreg_writer.proofs.ChangeLines.{rooted_none, rooted_some}
use Rattle.reg_dotreg_writer.proofs.change.push_rooted.Goals as goal

pub returns-then-is_empty : goal.returns-then-is_empty
returns-then-is_empty c =
    rooted_none c.args.is_utf8 c.args.root.now c.args.path.now c.args.bytes.now.items _
    (grind (arith, nat_tests, c.is_empty.ensures, c.if-is_empty.true)) c.in_ok-push_plain.ensures

pub returns : goal.returns
returns c =
    on_ok c.push_plain-2.result
    (rooted_some c.args.is_utf8 c.args.root.now c.args.path.now c.args.bytes.now.items _ _ _
    (grind (arith, nat_tests, c.is_empty.ensures, c.if-is_empty.false)) c.in_ok-push_plain.ensures c.in_ok-push_character.ensures)
    c.push_plain-2.ensures
