use Rattle.std.proofs.Common.{ap}
use Rattle.reg_heap.specs.Edits.{values_of}
use Rattle.reg_tree_text.proofs.SentTexts.{swapped, exits}
use Rattle.reg_tree_text.specs.Listings.{value_lines}
use Rattle.reg_tree_text.proofs.ListedLines.{key_told}
use Rattle.reg_tree_text.proofs.list_line.put_key.Goals as goal

pub returns-in_err-put_key_line : goal.returns-in_err-put_key_line
returns-in_err-put_key_line g c =
    λ p at told here names begin whole left s.
    exits _ _ _ _ c.from_residual.ensures.1
    (c.in_err-put_key_line.ensures begin whole _ (key_told begin _ whole left _ _ _ told names s))

pub returns : goal.returns
returns g c =
    λ p at told here names begin whole left s.
    c.put_values.ensures p at begin whole left
    (swapped begin _ whole _ _ left _ _
    (c.in_ok-put_key_line.ensures begin whole _ (key_told begin _ whole left _ _ _ told names s))
    (ap (λ o. value_lines (values_of o)) here))
