use Rattle.reg_tree_text.proofs.SentTexts.{ends, swapped}
use Rattle.reg_diff.proofs.ChangeLines.{bytes-alike, bytes-told}
use Rattle.reg_diff.proofs.fields.put_bytes_change.Goals as goal

pub returns-then-is_ignored-eq : goal.returns-then-is_ignored-eq
returns-then-is_ignored-eq g c = λ begin whole left s. ends begin _ whole _ left _ _ s (bytes-alike _ _ _ _ c.eq.ensures c.args.is_ignored _ c.if-is_ignored-eq.true)

pub returns : goal.returns
returns g c =
    λ begin whole left s.
    c.put_line.ensures begin whole left
    (swapped begin _ whole _ _ left _ _ s (bytes-told _ _ _ _ c.eq.ensures c.args.is_ignored c.args.what.now c.if-is_ignored-eq.false))
