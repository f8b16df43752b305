use Rattle.std.proofs.Common.{◌≡◌, ◌+◌, ◌-◌, ◌≤◌, length, take, vec_len, vec_capacity}
use Rattle.reg_sessions.specs.Jobs.{AreDone}
use Rattle.reg_sessions.proofs.driving.do_all.Given as goal

abbrev pub invariant-loop-one : goal.invariant-loop-one
invariant-loop-one g l =
    AreDone g.C.Callback.answers l.initial.session (take l.one-index l.work) l.initial.outcomes.items l.session l.outcomes.items
    × (vec_len l.outcomes + (length l.work - l.one-index) ≤ vec_capacity l.outcomes)
    × (length l.session.places ≡ length l.initial.session.places)
