use Rattle.std.proofs.Common.{arith}
use Rattle.std.proofs.lemmas.Bool.Decides.{nat_tests}
use Rattle.reg_dotreg_writer.proofs.EntryPieces.{row_ends, row_goes, row_over}
use Rattle.reg_dotreg_writer.proofs.value.push_rows.Goals as goal

pub returns-then-is_empty : goal.returns-then-is_empty
returns-then-is_empty c =
    row_ends c.args.is_utf8 c.loop-byte.room c.in-Some.byte.now _ c.loop-byte.rest.now c.in-Some.behind.now c.loop-byte.bytes.items _
    c.loop-byte.invariant c.in-Some.ensures.cases.0 (grind (arith, nat_tests, c.is_empty.ensures, c.if-is_empty.true)) c.in_ok-push_digits.ensures

pub loop-byte-preserved : goal.loop-byte-preserved
loop-byte-preserved c =
    row_goes c.args.is_utf8 c.loop-byte.room c.in_ok-room.room c.in-Some.byte.now _ c.loop-byte.rest.now c.in-Some.behind.now
    c.loop-byte.bytes.items _ _ c.loop-byte.invariant c.in-Some.ensures.cases.0
    (grind (arith, nat_tests, c.is_empty.ensures, c.if-is_empty.false)) c.in_ok-room.ensures.room c.in_ok-push_digits.ensures
    c.in_ok-room.ensures.bytes

pub returns : goal.returns
returns c =
    row_over c.args.is_utf8 c.loop-byte.room _ c.loop-byte.rest.now c.loop-byte.bytes.items c.loop-byte.invariant c.in_default.ensures.cases
