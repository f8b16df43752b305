use Rattle.std.proofs.Common.{◌≡◌, ◌+◌, ◌≤◌, vec_len, vec_capacity}
use Rattle.std.specs.Vec.Iter.{into_iter_len}
use Rattle.reg_sessions.proofs.gathering.opened.Given as goal

abbrev pub invariant-loop-lock : goal.invariant-loop-lock
invariant-loop-lock g l =
    (goal.iterator-loop-lock g).can_next l.lock-iterator
    × (goal.iterator-loop-lock g).is_finite l.lock-iterator
    × (vec_len l.hives + into_iter_len l.lock-iterator ≡ l.fn.registry.hives)
    × (l.fn.registry.hives ≤ 16)
    × (16 ≤ vec_capacity l.hives)
