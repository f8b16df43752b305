use Rattle.reg_heap.specs.Edits.{values_at}
use Rattle.reg_tree_text.proofs.SentTexts.{opened, exits}
use Rattle.reg_tables.specs.LongListings.{value_lines, lines_below, long_text}
use Rattle.reg_tables.proofs.long_listing.put_list.Goals as goal

pub returns-in_err-put_values : goal.returns-in_err-put_values
unfolding long_text
returns-in_err-put_values g c =
    λ p at begin whole left s.
    exits _ _ _ _ c.from_residual.ensures.1
    (c.in_err-put_values.ensures p at begin whole _
    (opened begin _ whole (value_lines c.args.columns (values_at c.args.tree.now.tree p))
    (lines_below c.args.columns c.args.is_tree c.args.tree.now.tree p) left _ _ s))

pub returns : goal.returns
unfolding long_text
returns g c =
    λ p at begin whole left s.
    c.put_keys.ensures p at begin whole left
    (c.in_ok-put_values.ensures p at begin whole _
    (opened begin _ whole (value_lines c.args.columns (values_at c.args.tree.now.tree p))
    (lines_below c.args.columns c.args.is_tree c.args.tree.now.tree p) left _ _ s))
