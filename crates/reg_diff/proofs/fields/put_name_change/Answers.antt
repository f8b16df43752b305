use Rattle.reg_tree_text.proofs.SentTexts.{ends, swapped}
use Rattle.reg_diff.proofs.ChangeLines.{name-alike, name-told}
use Rattle.reg_diff.proofs.fields.put_name_change.Goals as goal

pub returns-then-eq : goal.returns-then-eq
returns-then-eq g c = λ begin whole left s. ends begin _ whole _ left _ _ s (name-alike _ _ _ _ c.eq.ensures c.if-eq.true)

pub returns : goal.returns
returns g c =
    λ begin whole left s.
    c.put_line.ensures begin whole left (swapped begin _ whole _ _ left _ _ s (name-told _ _ _ _ c.eq.ensures c.if-eq.false))
