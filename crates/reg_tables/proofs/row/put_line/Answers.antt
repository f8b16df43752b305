use Rattle.reg_tree_text.proofs.SentTexts.{stops_full, exits}
use Rattle.reg_tables.proofs.row.put_line.Goals as goal

pub returns-in_err-text : goal.returns-in_err-text
returns-in_err-text g c = λ begin whole left s. exits _ _ _ _ c.from_residual.ensures.1 (stops_full begin _ whole _ _ _ s)
