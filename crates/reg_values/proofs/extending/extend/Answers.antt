use Rattle.reg_values.specs.NewValues.{all_told}
use Rattle.reg_values.proofs.ValueChanges.ValuesPlanned.{small-each}
use Rattle.reg_values.proofs.extending.extend.Goals as goal

pub plan_more-requires-clause-small : goal.plan_more-requires-clause-small
plan_more-requires-clause-small c = small-each (all_told c.args.values.now) c.requires.values.members (c.requires.new _ _ c.requires.values.reads)
