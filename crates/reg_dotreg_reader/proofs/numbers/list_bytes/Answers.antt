use Rattle.std.proofs.Common.{length, sym, ap}
use Rattle.reg_dotreg_reader.proofs.DigitLists.{some_left, list_last}
use Rattle.reg_dotreg_reader.proofs.numbers.list_bytes.Goals as goal

pub returns : goal.returns
returns c =
    list_last c.args.list.now c.loop-comma.bytes.items _ c.loop-comma.rest.now c.in_ok-byte-2.field-0 c.loop-comma.invariant.so_far
    (sym c.in_default.ensures.place)
    (some_left _ _ c.is_empty.result c.is_empty.ensures c.if-is_empty.false (ap length c.trimmed.ensures)) c.in_ok-byte-2.ensures
    c.in_ok-push-2.ensures.items
