use Rattle.std.proofs.Common.{ap}
use Rattle.std.specs.Prelude.{flat_map}
use Rattle.reg_heap.specs.Edits.{values_of}
use Rattle.reg_tree_text.specs.DumpTexts.{key_line, value_line}
use Rattle.reg_tree_text.proofs.SentTexts.{swapped, opened, exits}
use Rattle.reg_tree_text.proofs.dump_line.put_key.Goals as goal

pub returns-in_err-put_line : goal.returns-in_err-put_line
returns-in_err-put_line g c =
    λ p at told here names begin whole left s.
    exits _ _ _ _ c.from_residual.ensures.1
    (c.in_err-put_line.ensures p at told here names begin whole _
    (opened begin _ whole (key_line told) (flat_map value_line told.key.values) left _ _ s))

pub returns : goal.returns
returns g c =
    λ p at told here names begin whole left s.
    c.put_values.ensures p at begin whole left
    (swapped begin _ whole _ _ left _ _
    (c.in_ok-put_line.ensures p at told here names begin whole _
    (opened begin _ whole (key_line told) (flat_map value_line told.key.values) left _ _ s))
    (ap (λ o. flat_map value_line (values_of o)) here))
