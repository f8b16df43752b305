use Rattle.reg_tree_text.proofs.SentTexts.{exits}
use Rattle.reg_tables.proofs.TableTexts.{values-same}
use Rattle.reg_tables.proofs.LongLines.{told-next}
use Rattle.reg_tables.proofs.long_line.put_key.Goals as goal

pub returns-in_err-put_key_line : goal.returns-in_err-put_key_line
returns-in_err-put_key_line g c =
    λ p at told here names begin whole left s.
    exits _ _ _ _ c.from_residual.ensures.1
    (c.in_err-put_key_line.ensures p at told.key here begin whole _
    (told-next begin _ whole c.args.columns told _ _ left _ _ names (values-same c.args.tree.now.tree p told.key here) s))

pub returns : goal.returns
returns g c =
    λ p at told here names begin whole left s.
    c.put_values.ensures p at begin whole left
    (c.in_ok-put_key_line.ensures p at told.key here begin whole _
    (told-next begin _ whole c.args.columns told _ _ left _ _ names (values-same c.args.tree.now.tree p told.key here) s))
