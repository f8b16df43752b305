use Rattle.std.proofs.Common.{ap}
use Rattle.reg_tree_text.specs.Listings.{key_line}
use Rattle.reg_tree_text.proofs.SentTexts.{swapped, exits}
use Rattle.reg_queries.proofs.LookSteps.{line-next, lines-end}
use Rattle.reg_queries.proofs.listing.put_subkeys.Goals as goal

pub returns-in_err-put_key_line : goal.returns-in_err-put_key_line
returns-in_err-put_key_line g c =
    λ begin whole left s.
    exits _ _ _ _ c.from_residual.ensures.1
    (c.in_err-put_key_line.ensures begin whole _
    (swapped begin _ whole _ _ _ _ _
    (line-next key_line (λ name. name.items) begin _ whole c.args.names.now c.loop-name.name-index c.name-item.result _ left _ _
    c.loop-name-test.true c.name-item.is (c.loop-name.invariant begin whole left s))
    (ap key_line c.as_slice.ensures.value)))

pub loop-name-preserved : goal.loop-name-preserved
loop-name-preserved g c =
    λ begin whole left s.
    c.in_ok-put_key_line.ensures begin whole _
    (swapped begin _ whole _ _ _ _ _
    (line-next key_line (λ name. name.items) begin _ whole c.args.names.now c.loop-name.name-index c.name-item.result _ left _ _
    c.loop-name-test.true c.name-item.is (c.loop-name.invariant begin whole left s))
    (ap key_line c.as_slice.ensures.value))

pub returns : goal.returns
returns g c =
    λ begin whole left s.
    lines-end key_line (λ name. name.items) begin _ whole c.args.names.now c.loop-name.name-index left _ _ c.loop-name-test.false
    (c.loop-name.invariant begin whole left s)
