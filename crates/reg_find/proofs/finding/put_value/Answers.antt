use Rattle.reg_heap.specs.Edits.{values_at}
use Rattle.reg_tree_text.proofs.SentTexts.{swapped, stops_full, exits, ends}
use Rattle.reg_find.proofs.FoundLines.{tells_here, value_none, value_some}
use Rattle.reg_find.proofs.finding.put_value.Goals as goal

pub returns-in_err-is_value_match-clause-puts : goal.returns-in_err-is_value_match-clause-puts
returns-in_err-is_value_match-clause-puts g c =
    λ p at member here begin whole left s. exits _ _ _ _ c.from_residual.ensures.1 (stops_full begin _ whole _ _ _ s)

pub returns-then-not-branch-clause-puts : goal.returns-then-not-branch-clause-puts
returns-then-not-branch-clause-puts g c =
    λ p at member here begin whole left s.
    (let t = tells_here (values_at c.args.tree.now.tree p) c.args.index member here _ _ _ (c.in-Some.ensures.told p at) in
    ends begin _ whole _ left _ _ s
    (value_none (g.P.Pattern.matches c.args.pattern.now) c.args.scope _ member _ (c.in_ok-is_value_match.ensures.answer p at member here t) c.if-not-branch.true))

pub returns-clause-puts : goal.returns-clause-puts
returns-clause-puts g c =
    λ p at member here begin whole left s.
    (let t = tells_here (values_at c.args.tree.now.tree p) c.args.index member here _ _ _ (c.in-Some.ensures.told p at) in
    c.put_value_line.ensures begin whole left
    (swapped begin _ whole _ _ left _ _ s
    (value_some (g.P.Pattern.matches c.args.pattern.now) c.args.scope _ member _ (c.in_ok-is_value_match.ensures.answer p at member here t) c.if-not-branch.false _ _ _ t _
    c.deref.ensures.value)))
