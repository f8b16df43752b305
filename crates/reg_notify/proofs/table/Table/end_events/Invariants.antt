use Rattle.std.specs.Prelude.{vec_len}
use Rattle.reg_notify.proofs.Removals.{AreSeen}
use Rattle.reg_notify.proofs.table.Table.end_events.Given as goal

abbrev pub invariant-loop-event : goal.invariant-loop-event
invariant-loop-event l = AreSeen l.by l.fn.events.items l.events.items l.fn.self l.self

abbrev pub decreases-loop-event : goal.decreases-loop-event
decreases-loop-event l = vec_len l.events
