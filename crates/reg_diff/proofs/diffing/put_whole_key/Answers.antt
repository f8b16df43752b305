use Rattle.std.proofs.Common.{ap}
use Rattle.std.specs.Prelude.{flat_map}
use Rattle.reg_heap.specs.Edits.{values_of}
use Rattle.reg_tree_text.proofs.SentTexts.{opened, swapped, exits}
use Rattle.reg_diff.specs.Differences.{key_line, value_line}
use Rattle.reg_diff.proofs.diffing.put_whole_key.Goals as goal

pub returns-in_err-put_key_line : goal.returns-in_err-put_key_line
returns-in_err-put_key_line g c =
    λ p at key here begin whole left s.
    exits _ _ _ _ c.from_residual.ensures.1
    (c.in_err-put_key_line.ensures begin whole _
    (opened begin _ whole (key_line c.args.side c.args.path.now) (flat_map (value_line c.args.side c.args.path.now) key.values) left _ _ s))

pub returns : goal.returns
returns g c =
    λ p at key here begin whole left s.
    c.put_values.ensures p at begin whole left
    (swapped begin _ whole _ _ left _ _
    (c.in_ok-put_key_line.ensures begin whole _
    (opened begin _ whole (key_line c.args.side c.args.path.now) (flat_map (value_line c.args.side c.args.path.now) key.values) left _ _ s))
    (ap (λ o. flat_map (value_line c.args.side c.args.path.now) (values_of o)) here))
