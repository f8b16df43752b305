use Rattle.reg_tree_text.proofs.SentTexts.{stops_full, exits}
use Rattle.reg_tables.proofs.row.put_member.Goals as goal

pub returns-in_err-number : goal.returns-in_err-number
returns-in_err-number g c = λ begin whole left s. exits _ _ _ _ c.from_residual.ensures.1 (stops_full begin _ whole _ _ _ s)

pub returns-in_err-data : goal.returns-in_err-data
returns-in_err-data g c = λ begin whole left s. exits _ _ _ _ c.from_residual-in_err-data.ensures.1 (stops_full begin _ whole _ _ _ s)

pub returns-in_err-form : goal.returns-in_err-form
returns-in_err-form g c = λ begin whole left s. exits _ _ _ _ c.from_residual-in_err-form.ensures.1 (stops_full begin _ whole _ _ _ s)
