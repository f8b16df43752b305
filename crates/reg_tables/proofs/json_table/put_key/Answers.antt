use Rattle.std.proofs.Common.{refl, ap, ◌∙◌}
use Rattle.reg_tree_text.proofs.SentTexts.{swapped, stops_full, exits}
use Rattle.reg_tables.specs.Internal.Layouts.{laid}
use Rattle.reg_tables.proofs.TableTexts.{entry-same}
use Rattle.reg_tables.proofs.json_table.put_key.Goals as goal

pub returns-in_err-entry : goal.returns-in_err-entry
returns-in_err-entry g c = λ p at told here names begin whole left s. exits _ _ _ _ c.from_residual.ensures.1 (stops_full begin _ whole _ _ _ s)

pub returns-in_err-text : goal.returns-in_err-text
returns-in_err-text g c = λ p at told here names begin whole left s. exits _ _ _ _ c.from_residual-in_err-text.ensures.1 (stops_full begin _ whole _ _ _ s)

pub returns-in_err-shown : goal.returns-in_err-shown
returns-in_err-shown g c = λ p at told here names begin whole left s. exits _ _ _ _ c.from_residual-in_err-shown.ensures.1 (stops_full begin _ whole _ _ _ s)

pub returns : goal.returns
returns g c =
    λ p at told here names begin whole left s.
    c.put_text.ensures begin whole left
    (swapped begin _ whole _ _ left _ _ s
    (c.deref.ensures ∙ (c.in_ok-shown.ensures
    ∙ ap (laid c.args.layout) (entry-same told _ _ _ (c.in_ok-entry.ensures p at told here names) c.in_ok-text.ensures refl))))
