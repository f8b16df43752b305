use Rattle.std.proofs.Common.{arith, refl}
use Rattle.std.proofs.lemmas.Bool.Decides.{nat_tests}
use Rattle.reg_tree_text.proofs.SpeltUnits.{units_start, units_more, units_none, units_all}
use Rattle.reg_tables.proofs.units.units_of.Goals as goal

pub loop-rest-init : goal.loop-rest-init
loop-rest-init c = units_start _ _ c.in_ok-units.ensures.items

pub loop-rest-preserved : goal.loop-rest-preserved
loop-rest-preserved c =
    units_more c.args.bytes.now c.loop-rest.units.items _ c.loop-rest.rest.now _ _ c.loop-rest.invariant c.loop-rest-test.true refl (omega arith) c.in_ok-push.ensures.items

pub returns-then-not-is_empty : goal.returns-then-not-is_empty
returns-then-not-is_empty c =
    units_none c.args.bytes.now c.loop-rest.units.items c.loop-rest.rest.now c.loop-rest.invariant c.loop-rest-test.false (grind (arith, nat_tests, c.if-not-is_empty.ensures))

pub returns : goal.returns
returns c =
    units_all c.args.bytes.now c.loop-rest.units.items c.loop-rest.rest.now c.loop-rest.invariant (grind (arith, nat_tests, c.if-not-is_empty.ensures))
