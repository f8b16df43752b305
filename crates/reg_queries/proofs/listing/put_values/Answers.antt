use Rattle.std.proofs.Common.{List, ℕ, ap}
use Rattle.reg_tree_image.specs.KeysAtPaths.{listed_in}
use Rattle.reg_tree_text.specs.Listings.{value_line}
use Rattle.reg_tree_text.proofs.SentTexts.{swapped, exits}
use Rattle.reg_queries.specs.KeyQueries.{member_line}
use Rattle.reg_queries.proofs.LookSteps.{line-next, lines-end}
use Rattle.reg_queries.proofs.listing.put_values.Goals as goal

pub returns-in_err-put_value_line : goal.returns-in_err-put_value_line
returns-in_err-put_value_line g c =
    λ begin whole left s.
    exits _ _ _ _ c.from_residual.ensures.1
    (c.in_err-put_value_line.ensures begin whole _
    (swapped begin _ whole _ _ _ _ _
    (line-next member_line listed_in begin _ whole c.args.values.now c.loop-value.value-index c.value-item.result _ left _ _
    c.loop-value-test.true c.value-item.is (c.loop-value.invariant begin whole left s))
    (ap (λ (name : List ℕ). value_line name c.value-item.result.kind c.value-item.result.size) c.as_slice.ensures.value)))

pub loop-value-preserved : goal.loop-value-preserved
loop-value-preserved g c =
    λ begin whole left s.
    c.in_ok-put_value_line.ensures begin whole _
    (swapped begin _ whole _ _ _ _ _
    (line-next member_line listed_in begin _ whole c.args.values.now c.loop-value.value-index c.value-item.result _ left _ _
    c.loop-value-test.true c.value-item.is (c.loop-value.invariant begin whole left s))
    (ap (λ (name : List ℕ). value_line name c.value-item.result.kind c.value-item.result.size) c.as_slice.ensures.value))

pub returns : goal.returns
returns g c =
    λ begin whole left s.
    lines-end member_line listed_in begin _ whole c.args.values.now c.loop-value.value-index left _ _ c.loop-value-test.false
    (c.loop-value.invariant begin whole left s)
