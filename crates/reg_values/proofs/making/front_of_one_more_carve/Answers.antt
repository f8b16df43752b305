use Rattle.std.proofs.Common.{arith}
use Rattle.reg_values.proofs.ValueChanges.ValuesPlanned.{some-fit}
use Rattle.reg_values.proofs.making.front_of_one_more_carve.Goals as goal

pub returns-clause-some : goal.returns-clause-some
returns-clause-some c = λ l. some-fit c.args.values.now c.front_within.result _ c.requires l (omega arith) c.front_within.ensures.longest
