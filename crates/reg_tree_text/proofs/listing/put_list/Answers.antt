use Rattle.std.specs.Prelude.{flat_map}
use Rattle.reg_heap.specs.Paths.{children_of}
use Rattle.reg_heap.specs.Edits.{values_at}
use Rattle.reg_tree_text.proofs.SentTexts.{opened, exits}
use Rattle.reg_tree_text.specs.Listings.{value_lines, list_text}
use Rattle.reg_tree_text.proofs.ListedKeys.{child_line}
use Rattle.reg_tree_text.proofs.listing.put_list.Goals as goal

pub returns-in_err-put_values : goal.returns-in_err-put_values
unfolding list_text
returns-in_err-put_values g c =
    λ p at begin whole left s.
    exits _ _ _ _ c.from_residual.ensures.1
    (c.in_err-put_values.ensures p at begin whole _
    (opened begin _ whole (value_lines (values_at c.args.tree.now.tree p))
    (flat_map (child_line c.args.tree.now.tree) (children_of c.args.tree.now.tree p)) left _ _ s))

pub returns : goal.returns
unfolding list_text
returns g c =
    λ p at begin whole left s.
    c.put_subkeys.ensures p at begin whole left
    (c.in_ok-put_values.ensures p at begin whole _
    (opened begin _ whole (value_lines (values_at c.args.tree.now.tree p))
    (flat_map (child_line c.args.tree.now.tree) (children_of c.args.tree.now.tree p)) left _ _ s))
