use Rattle.std.proofs.Common.{◌∙◌, refl}
use Rattle.reg_tree_text.proofs.SentTexts.{swapped, stops_full, exits}
use Rattle.reg_tables.proofs.LongLines.{line-same}
use Rattle.reg_tables.proofs.long_line.put_key_line.Goals as goal

pub returns-in_err-about : goal.returns-in_err-about
returns-in_err-about g c = λ p at key here begin whole left s. exits _ _ _ _ c.from_residual.ensures.1 (stops_full begin _ whole _ _ _ s)

pub returns : goal.returns
returns g c =
    λ p at key here begin whole left s.
    c.put_line.ensures begin whole left
    (swapped begin _ whole _ _ left _ _ s (line-same _ _ _ _ _ _ refl (c.deref.ensures ∙ c.in_ok-about.ensures p at key here)))
