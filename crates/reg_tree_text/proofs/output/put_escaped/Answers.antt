use Rattle.std.proofs.Common.{arith}
use Rattle.reg_text.proofs.TextPieces.{escaped-piece, escaped-end}
use Rattle.reg_tree_text.proofs.SentTexts.{pieces, ends, stops_full, exits}
use Rattle.reg_tree_text.proofs.output.put_escaped.Goals as goal

pub returns-in_err-write_escaped : goal.returns-in_err-write_escaped
returns-in_err-write_escaped g c =
    λ begin whole left s. exits _ _ _ _ c.from_residual.ensures.1
    (stops_full begin _ whole _ _ _ (c.loop-from.invariant begin whole left s))

pub returns-in_err-settle : goal.returns-in_err-settle
returns-in_err-settle g c =
    λ begin whole left s.
    exits _ _ _ _ c.from_residual-in_err-settle.ensures.1
    (c.in_err-settle.ensures.tells begin whole _
    (pieces begin _ whole _ _ _ left _ _ _ (c.loop-from.invariant begin whole left s)
    (let e = escaped-piece c.loop-from.from c.min-piece.result _ c.args.name.now (omega arith) in e) c.in_ok-write_escaped.ensures))

pub loop-from-preserved : goal.loop-from-preserved
loop-from-preserved g c =
    λ begin whole left s.
    c.in_ok-settle.ensures.tells begin whole _
    (pieces begin _ whole _ _ _ left _ _ _ (c.loop-from.invariant begin whole left s)
    (let e = escaped-piece c.loop-from.from c.min-piece.result _ c.args.name.now (omega arith) in e) c.in_ok-write_escaped.ensures)

pub returns : goal.returns
returns g c =
    λ begin whole left s. ends begin _ whole _ left _ _ (c.loop-from.invariant begin whole left s) (escaped-end _ _ c.loop-from-test.false)
