use Rattle.reg_tree_text.proofs.SentTexts.{swapped}
use Rattle.reg_diff.specs.Internal.Parts.{member_of}
use Rattle.reg_diff.proofs.ChangeLines.{value-told}
use Rattle.reg_diff.proofs.values.put_value.Goals as goal

pub returns : goal.returns
returns g c =
    λ begin whole left s.
    c.put_line.ensures begin whole left
    (swapped begin _ whole _ _ left _ _ s
    (value-told c.args.side c.args.path.now (member_of c.args.value.now) _ _ _ c.word.ensures c.from.ensures c.deref.ensures.value))
