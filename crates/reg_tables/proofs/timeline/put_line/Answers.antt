use Rattle.std.proofs.Common.{◌∙◌}
use Rattle.reg_tree_text.proofs.SentTexts.{swapped, stops_full, exits}
use Rattle.reg_tables.proofs.timeline.put_line.Goals as goal

pub returns-in_err-text : goal.returns-in_err-text
returns-in_err-text g c = λ begin whole left s. exits _ _ _ _ c.from_residual.ensures.1 (stops_full begin _ whole _ _ _ s)

pub returns : goal.returns
returns g c =
    λ begin whole left s. c.put_text.ensures begin whole left (swapped begin _ whole _ _ left _ _ s (c.deref.ensures ∙ c.in_ok-text.ensures))
