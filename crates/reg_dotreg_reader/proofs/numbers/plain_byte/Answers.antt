use Rattle.std.proofs.Common.{sym}
use Rattle.reg_dotreg_reader.proofs.PlainBytes.{two_digits}
use Rattle.reg_dotreg_reader.proofs.numbers.plain_byte.Goals as goal

pub returns : goal.returns
returns c =
    two_digits c.args.piece.now c.in_ok-high.high c.in_ok-low.low c.if-piece-ne2.false (sym c.in_ok-high.ensures) (sym c.in_ok-low.ensures)
