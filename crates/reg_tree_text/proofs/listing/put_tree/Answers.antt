use Rattle.std.specs.Prelude.{flat_map}
use Rattle.reg_heap.specs.Edits.{values_at}
use Rattle.reg_tree_text.proofs.SentTexts.{opened, exits}
use Rattle.reg_tree_text.specs.Listings.{value_lines, told_lines, keys_below, tree_text}
use Rattle.reg_tree_text.proofs.listing.put_tree.Goals as goal

pub returns-in_err-put_values : goal.returns-in_err-put_values
unfolding tree_text
returns-in_err-put_values g c =
    λ p at begin whole left s.
    exits _ _ _ _ c.from_residual.ensures.1
    (c.in_err-put_values.ensures p at begin whole _
    (opened begin _ whole (value_lines (values_at c.args.tree.now.tree p))
    (flat_map told_lines (keys_below c.args.tree.now.tree p)) left _ _ s))

pub returns : goal.returns
unfolding tree_text
returns g c =
    λ p at begin whole left s.
    c.put_below.ensures p at begin whole left
    (c.in_ok-put_values.ensures p at begin whole _
    (opened begin _ whole (value_lines (values_at c.args.tree.now.tree p))
    (flat_map told_lines (keys_below c.args.tree.now.tree p)) left _ _ s))
