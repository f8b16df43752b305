use Rattle.std.proofs.Common.{arith, []}
use Rattle.reg_arena.specs.Arena.{heap_of}
use Rattle.reg_values.proofs.ValueChanges.ValuesMade.{no-made}
use Rattle.reg_values.specs.NewValues.{all_told}
use Rattle.reg_values.proofs.ValueChanges.ValuesPlanned.{small-each}
use Rattle.reg_values.proofs.making.make.Goals as goal

pub returns-then-is_empty-clause-ok : goal.returns-then-is_empty-clause-ok
returns-then-is_empty-clause-ok c = let t = c.if-is_empty.true in let e = c.is_empty.ensures in no-made (heap_of c.args.arena.now) c.args.values.now (grind (arith, t, e))

pub plan_all-requires-clause-small : goal.plan_all-requires-clause-small
plan_all-requires-clause-small c = small-each (all_told c.args.values.now) [] c.requires.new
