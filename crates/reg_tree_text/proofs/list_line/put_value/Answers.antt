use Rattle.reg_heap.specs.Edits.{values_at}
use Rattle.reg_tree_text.proofs.SentTexts.{swapped}
use Rattle.reg_tree_text.proofs.ListedLines.{value_same}
use Rattle.reg_tree_text.proofs.list_line.put_value.Goals as goal

pub returns : goal.returns
returns g c =
    λ p at member here begin whole left s.
    c.put_value_line.ensures begin whole left
    (swapped begin _ whole _ _ left _ _ s
    (value_same (values_at c.args.tree.now.tree p) c.args.index member here _ _ _ (c.in-Some.ensures.told p at)))
