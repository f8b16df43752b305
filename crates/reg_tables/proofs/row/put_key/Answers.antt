use Rattle.reg_tree_text.proofs.SentTexts.{exits}
use Rattle.reg_tables.proofs.TableTexts.{key-next, values-same}
use Rattle.reg_tables.proofs.row.put_key.Goals as goal

pub returns-in_err-put_line : goal.returns-in_err-put_line
returns-in_err-put_line g c =
    λ p at told here names begin whole left s.
    exits _ _ _ _ c.from_residual.ensures.1
    (c.in_err-put_line.ensures begin whole _ (key-next begin _ whole left _ _ told _ _ _ names (c.time-time.ensures p at told.key here) (values-same _ _ _ here) s))

pub returns : goal.returns
returns g c =
    λ p at told here names begin whole left s.
    c.put_values.ensures p at begin whole left
    (c.in_ok-put_line.ensures begin whole _ (key-next begin _ whole left _ _ told _ _ _ names (c.time-time.ensures p at told.key here) (values-same _ _ _ here) s))
