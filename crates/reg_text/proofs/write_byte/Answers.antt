use Rattle.std.proofs.Common.{sym, ◌∙◌, true}
use Rattle.std.proofs.lemmas.Fmt.{hex_byte}
use Rattle.reg_text.proofs.EscapedBytes.{plain_written, escape_is}
use Rattle.reg_text.proofs.write_byte.Goals as goal

pub returns-then-is_plain : goal.returns-then-is_plain
returns-then-is_plain c =
    plain_written c.push.result _ _ c.args.byte c.from.result
    (sym c.is_plain.ensures ∙ c.if-is_plain.true) c.from.ensures c.push.ensures.bytes c.push.ensures.ascii

pub returns : goal.returns
returns c =
    rw (escape_is c.args.byte (sym c.is_plain.ensures ∙ c.if-is_plain.false))
    (rw (c.laid_out.ensures, c.in_radix.ensures, hex_byte true c.args.byte c.ranges.byte.fits) at c.write.ensures.bytes)
