use Rattle.std.proofs.Common.{◌∙◌}
use Rattle.reg_heap.specs.Edits.{values_at}
use Rattle.reg_tree_text.proofs.SentTexts.{swapped, stops_full, exits}
use Rattle.reg_tables.proofs.LongLines.{name-same, line-same}
use Rattle.reg_tables.proofs.long_line.put_value.Goals as goal

pub returns-in_err-about : goal.returns-in_err-about
returns-in_err-about g c = λ p at member here begin whole left s. exits _ _ _ _ c.from_residual.ensures.1 (stops_full begin _ whole _ _ _ s)

pub returns : goal.returns
returns g c =
    λ p at member here begin whole left s.
    c.put_line.ensures begin whole left
    (swapped begin _ whole _ _ left _ _ s
    (line-same _ _ _ _ _ _
    (name-same (values_at c.args.tree.now.tree p) c.args.index member here _ _ _ (c.in-Some.ensures.told p at))
    (c.deref.ensures ∙ c.in_ok-about.ensures p at member here)))
