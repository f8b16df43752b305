use Rattle.std.proofs.Common.{◌≡◌, ◌+◌, ◌≤◌, vec_len, vec_capacity}
use Rattle.std.specs.Vec.Iter.{into_iter_len}
use Rattle.reg_sessions.specs.Sessions.{AreFresh}
use Rattle.reg_sessions.proofs.starting.locked.Given as goal

abbrev pub invariant-loop-hive : goal.invariant-loop-hive
invariant-loop-hive g l =
    (goal.iterator-loop-hive g).can_next l.hive-iterator
    × (goal.iterator-loop-hive g).is_finite l.hive-iterator
    × (l.number + into_iter_len l.hive-iterator ≡ vec_len l.fn.hives)
    × (vec_len l.locks ≡ l.number)
    × (vec_len l.fn.hives ≤ vec_capacity l.locks)
    × (vec_len l.sessions ≡ vec_len l.initial.sessions)
    × AreFresh l.number 0 l.sessions.items
