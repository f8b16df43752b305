use Rattle.reg_model.proofs.CallSteps.{grows}
use Rattle.reg_model.proofs.laws.acceptance_is_an_entry.Goals as goal

pub returns-clause-entry : goal.returns-clause-entry
returns-clause-entry c = λ base origin past session moment change k e. let g = grows base origin past session moment change k e in g.fit

pub returns-clause-after : goal.returns-clause-after
returns-clause-after c = λ base origin past session moment change k e. let g = grows base origin past session moment change k e in g.after
