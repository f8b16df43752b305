use Rattle.std.proofs.Common.{◌≡◌, vec_len}
use Rattle.reg_calls.specs.HiveView.{view_of, noted_of, callbacks_of}
use Rattle.reg_sessions.specs.Internal.Moved.{AreMoved, AreSentFrom}
use Rattle.reg_sessions.proofs.lines.push_all.Given as goal

abbrev pub invariant-loop-s : goal.invariant-loop-s
invariant-loop-s g l =
    (vec_len l.lines ≡ vec_len l.initial.lines)
    × AreMoved (view_of l.initial.hive) (view_of l.hive)
    × AreSentFrom l.s l.lines.items (view_of l.hive)
    × (noted_of l.hive ≡ noted_of l.initial.hive)
    × (callbacks_of l.hive ≡ callbacks_of l.initial.hive)
