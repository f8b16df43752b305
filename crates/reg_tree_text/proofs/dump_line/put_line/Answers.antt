use Rattle.reg_tree_text.proofs.SentTexts.{swapped}
use Rattle.reg_tree_text.proofs.LineTexts.{key_same}
use Rattle.reg_tree_text.proofs.dump_line.put_line.Goals as goal

pub returns : goal.returns
returns g c =
    λ p at told here names begin whole left s.
    c.put_fields.ensures begin whole left
    (swapped begin _ whole _ _ left _ _ s
    (key_same told _ _ _ _ _ names (c.marks-marks.ensures p at told.key here) (c.class.ensures.told p at told.key here)
    (c.descriptor.ensures.told p at told.key here) (c.time-time.ensures p at told.key here)))
