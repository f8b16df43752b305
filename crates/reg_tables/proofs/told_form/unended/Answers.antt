use Rattle.reg_tree_text.proofs.SpeltUnits.{ended, not_ended, none_ended}
use Rattle.reg_tables.proofs.told_form.unended.Goals as goal

pub returns-in_default : goal.returns-in_default
returns-in_default c = none_ended _ c.in_default.ensures.cases

pub returns-then-last-eq0 : goal.returns-then-last-eq0
returns-then-last-eq0 c = ended _ c.in-Some.front.now c.in-Some.last.now c.in-Some.ensures.cases.0 c.if-last-eq0.true

pub returns : goal.returns
returns c = not_ended _ c.in-Some.front.now c.in-Some.last.now c.in-Some.ensures.cases.0 c.if-last-eq0.false
