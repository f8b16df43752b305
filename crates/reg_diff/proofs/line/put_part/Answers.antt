use Rattle.reg_tree_text.proofs.SentTexts.{stops_full, exits}
use Rattle.reg_diff.proofs.line.put_part.Goals as goal

pub returns-in_err-write_word-in-Word : goal.returns-in_err-write_word-in-Word
returns-in_err-write_word-in-Word g c = λ begin whole left s. exits _ _ _ _ c.from_residual.ensures.1 (stops_full begin _ whole _ _ _ s)

pub returns-in_err-write_number-in-Number : goal.returns-in_err-write_number-in-Number
returns-in_err-write_number-in-Number g c =
    λ begin whole left s. exits _ _ _ _ c.from_residual-in_err-write_number-in-Number.ensures.1 (stops_full begin _ whole _ _ _ s)
