use Rattle.std.proofs.Common.{refl, inl}
use Rattle.zugmeled.specs.Calls.{QueryTakesMemory}
use Rattle.zugmeled.proofs.questions.value_told.Goals as goal

pub returns-in-Err-clause-told : goal.returns-in-Err-clause-told
unfolding QueryTakesMemory
returns-in-Err-clause-told c = inl (c.in-Err.ensures.many, c.lack.result, c.lack.ensures.lack, (c.refused.ensures, refl))
