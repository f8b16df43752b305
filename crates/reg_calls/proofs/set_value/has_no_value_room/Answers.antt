use Rattle.std.proofs.Common.{arith, ap, ◌∙◌, is_some, Option, ℕ}
use Rattle.std.proofs.lemmas.Grind.{common_steps}
use Rattle.std.proofs.lemmas.Bool.Decides.{nat_tests}
use Rattle.reg_heap.specs.Edits.{values_at}
use Rattle.reg_tree.proofs.ValueChange.ValueAtPlace.{named_if}
use Rattle.reg_calls.proofs.set_value.has_no_value_room.Goals as goal

pub returns-then-is_none : goal.returns-then-is_none
returns-then-is_none c = λ p at name place.
    let count = c.values.ensures p at in
    let lacks = ap (λ (o : Option ℕ). is_some o) place ∙ named_if name (values_at c.args.tree.now.tree p) in
    grind (arith, nat_tests, common_steps, count, lacks)

pub returns-else-is_none : goal.returns-else-is_none
returns-else-is_none c = λ p at name place.
    let lacks = ap (λ (o : Option ℕ). is_some o) place ∙ named_if name (values_at c.args.tree.now.tree p) in
    grind (arith, nat_tests, common_steps, lacks)
