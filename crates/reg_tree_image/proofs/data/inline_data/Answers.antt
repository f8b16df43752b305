use Rattle.reg_tree_image.proofs.Readers.DataForms.{inline-read}
use Rattle.reg_tree_image.proofs.data.inline_data.Goals as goal

pub returns-clause-gives : goal.returns-clause-gives
returns-clause-gives c heap minor path =
    inline-read heap minor path c.args.size c.args.offset _ c.to_le_bytes.ensures c.if-count-gt-INLINE_LIMIT.false
