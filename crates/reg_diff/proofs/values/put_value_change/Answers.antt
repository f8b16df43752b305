use Rattle.reg_tree_text.proofs.SentTexts.{swapped}
use Rattle.reg_diff.specs.Internal.Parts.{member_of}
use Rattle.reg_diff.proofs.ChangeLines.{change-told}
use Rattle.reg_diff.proofs.values.put_value_change.Goals as goal

pub returns : goal.returns
returns g c =
    λ begin whole left s.
    c.put_line.ensures begin whole left
    (swapped begin _ whole _ _ left _ _ s
    (change-told c.args.path.now (member_of c.args.was.now) (member_of c.args.is.now) _ _ _ _ c.from.ensures c.deref.ensures.value
    c.from-2.ensures c.deref-2.ensures.value))
