use Rattle.reg_tree_text.proofs.SentTexts.{opened, swapped, exits}
use Rattle.reg_tables.specs.Tables.{key_text}
use Rattle.reg_tables.specs.Internal.Layouts.{between_keys, laid, more_laid}
use Rattle.reg_tables.proofs.json_table.put_next.Goals as goal

pub returns-in_err-put_text : goal.returns-in_err-put_text
unfolding more_laid
returns-in_err-put_text g c =
    λ p at told here names begin whole left s.
    exits _ _ _ _ c.from_residual.ensures.1
    (c.in_err-put_text.ensures begin whole _
    (swapped begin _ whole _ _ _ _ _ (opened begin _ whole (between_keys c.args.layout) (laid c.args.layout (key_text told)) left _ _ s) c.between_keys.ensures))

pub returns : goal.returns
unfolding more_laid
returns g c =
    λ p at told here names begin whole left s.
    c.put_key.ensures p at told here names begin whole left
    (c.in_ok-put_text.ensures begin whole _
    (swapped begin _ whole _ _ _ _ _ (opened begin _ whole (between_keys c.args.layout) (laid c.args.layout (key_text told)) left _ _ s) c.between_keys.ensures))
