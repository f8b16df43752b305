use Rattle.std.proofs.Common.{◌∙◌}
use Rattle.reg_tree_text.proofs.SentTexts.{swapped, ends}
use Rattle.reg_find.proofs.FoundLines.{key_none, key_some}
use Rattle.reg_find.proofs.finding.put_name.Goals as goal

pub returns-then-not-is_key_match-clause-puts : goal.returns-then-not-is_key_match-clause-puts
returns-then-not-is_key_match-clause-puts g c =
    λ p at told here path begin whole left s.
    ends begin _ whole _ left _ _ s
    (key_none (g.P.Pattern.matches c.args.pattern.now) c.args.scope told _ _ _ (c.name.ensures.told p at told.key here) (c.deref.ensures.value ∙ path) c.is_key_match.ensures.answer c.if-not-is_key_match.true)

pub returns-clause-puts : goal.returns-clause-puts
returns-clause-puts g c =
    λ p at told here path begin whole left s.
    c.put_key_line.ensures begin whole left
    (swapped begin _ whole _ _ left _ _ s
    (key_some (g.P.Pattern.matches c.args.pattern.now) c.args.scope told _ _ _ (c.name.ensures.told p at told.key here) (c.deref.ensures.value ∙ path) c.is_key_match.ensures.answer c.if-not-is_key_match.false
    _ (c.deref-2.ensures.value ∙ path)))
