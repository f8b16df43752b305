use Rattle.std.proofs.Common.{◌≡◌, ◌-◌, ◌++◌}
use Rattle.rtrb.specs.Ring.{sent}
use Rattle.reg_calls.specs.HiveView.{view_of, noted_of, callbacks_of}
use Rattle.reg_outbox.specs.Rings.{IsHandedOut, backlog_of}
use Rattle.reg_outbox.proofs.ends.Outbox.refill.Given as goal

abbrev pub invariant-loop-moved : goal.invariant-loop-moved
invariant-loop-moved g l =
    IsHandedOut l.session l.moved (view_of l.initial.hive) (view_of l.hive)
    × (sent l.self-inside.producer ++ backlog_of l.session (view_of l.hive) ≡ sent l.initial.self-inside.producer ++ backlog_of l.session (view_of l.initial.hive))
    × (noted_of l.hive ≡ noted_of l.initial.hive)
    × (callbacks_of l.hive ≡ callbacks_of l.initial.hive)

abbrev pub decreases-loop-moved : goal.decreases-loop-moved
decreases-loop-moved g l = l.kept - l.moved
