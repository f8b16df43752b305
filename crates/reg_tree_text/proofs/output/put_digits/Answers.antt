use Rattle.std.proofs.Common.{arith}
use Rattle.reg_text.proofs.TextPieces.{digits-piece, digits-end}
use Rattle.reg_tree_text.proofs.SentTexts.{pieces, ends, stops_full, exits}
use Rattle.reg_tree_text.proofs.output.put_digits.Goals as goal

pub returns-in_err-write_digits : goal.returns-in_err-write_digits
returns-in_err-write_digits g c =
    λ begin whole left s. exits _ _ _ _ c.from_residual.ensures.1
    (stops_full begin _ whole _ _ _ (c.loop-from.invariant begin whole left s))

pub returns-in_err-settle : goal.returns-in_err-settle
returns-in_err-settle g c =
    λ begin whole left s.
    exits _ _ _ _ c.from_residual-in_err-settle.ensures.1
    (c.in_err-settle.ensures.tells begin whole _
    (pieces begin _ whole _ _ _ left _ _ _ (c.loop-from.invariant begin whole left s)
    (let e = digits-piece c.loop-from.from c.min-piece.result _ c.args.bytes.now (omega arith) in e) c.in_ok-write_digits.ensures))

pub loop-from-preserved : goal.loop-from-preserved
loop-from-preserved g c =
    λ begin whole left s.
    c.in_ok-settle.ensures.tells begin whole _
    (pieces begin _ whole _ _ _ left _ _ _ (c.loop-from.invariant begin whole left s)
    (let e = digits-piece c.loop-from.from c.min-piece.result _ c.args.bytes.now (omega arith) in e) c.in_ok-write_digits.ensures)

pub returns : goal.returns
returns g c =
    λ begin whole left s. ends begin _ whole _ left _ _ (c.loop-from.invariant begin whole left s) (digits-end _ _ c.loop-from-test.false)
