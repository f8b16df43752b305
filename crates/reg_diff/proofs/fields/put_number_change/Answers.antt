use Rattle.reg_tree_text.proofs.SentTexts.{ends, swapped}
use Rattle.reg_diff.proofs.ChangeLines.{number-alike, number-told}
use Rattle.reg_diff.proofs.fields.put_number_change.Goals as goal

pub returns-then-is_ignored-was : goal.returns-then-is_ignored-was
returns-then-is_ignored-was g c = λ begin whole left s. ends begin _ whole _ left _ _ s (number-alike c.args.is_ignored _ _ _ _ c.if-is_ignored-was.true)

pub returns : goal.returns
returns g c =
    λ begin whole left s.
    c.put_line.ensures begin whole left
    (swapped begin _ whole _ _ left _ _ s (number-told c.args.is_ignored c.args.what.now _ _ _ c.if-is_ignored-was.false))
