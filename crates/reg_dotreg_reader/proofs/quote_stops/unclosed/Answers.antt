use Rattle.std.proofs.Common.{sym}
use Rattle.reg_dotreg_reader.proofs.StopPlaces.{unclosed_here}
use Rattle.reg_dotreg_reader.proofs.quote_stops.unclosed.Goals as goal

pub returns-in_default-behind_after : goal.returns-in_default-behind_after
returns-in_default-behind_after c =
    unclosed_here _ c.args.left c.loop-unit.rest.now c.in-Some.others.now c.in-Some.unit.now c.loop-unit.is_behind_backslash
    c.loop-unit.invariant.so_far c.in-Some.ensures.cases.0 (sym c.in_default-behind_after.ensures)
