use Rattle.std.proofs.Common.{◌+◌, ◌*◌, arith, refl}
use Rattle.reg_find.proofs.HeldTexts.{units_start, units_more, units_all}
use Rattle.reg_find.proofs.wide.units_in.Goals as goal

pub loop-rest-init : goal.loop-rest-init
loop-rest-init c = units_start _ _ c.new-units.ensures.items

pub loop-rest-preserved : goal.loop-rest-preserved
loop-rest-preserved c =
    units_more c.args.bytes.now c.loop-rest.units.items _ c.loop-rest.rest.now _ (c.from.result + 256 * c.from-in-loop-rest.result) _
    c.loop-rest.invariant c.loop-rest-test.true refl (omega arith) c.unit_or_line_end.ensures c.in_ok-push.ensures.items

pub returns : goal.returns
returns c = units_all c.args.bytes.now c.loop-rest.units.items c.loop-rest.rest.now c.loop-rest.invariant (omega (arith, c.loop-rest-test.false))
