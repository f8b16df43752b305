-- The queues of the sessions.
use Rattle.std.specs.Prelude.{ℕ, ◌+◌, ◌≤◌, List, [], length, vec_capacity, slice_get, Option, Some, None}
use Rattle.reg_model.specs.declared.notice.Notice.{Notice}
use Rattle.reg_notify.specs.declared.queues.Queue.{Queue}

abbrev pub told_in : Option Queue → List Notice
told_in None = []
told_in (Some q) = q.told.items

abbrev pub taken_in : Option Queue → ℕ
taken_in None = 0
taken_in (Some q) = q.taken

abbrev pub room_in : Option Queue → ℕ
room_in None = 0
room_in (Some q) = vec_capacity q.told

abbrev pub pending_in : Option Queue → ℕ
pending_in None = 0
pending_in (Some q) = q.pending

-- what a session was told, how much of it was taken, how much there is room for, and how many of its watches are pending
abbrev pub told_at : List Queue → ℕ → List Notice
told_at qs session = told_in (slice_get qs session)

abbrev pub taken_at : List Queue → ℕ → ℕ
taken_at qs session = taken_in (slice_get qs session)

abbrev pub room_at : List Queue → ℕ → ℕ
room_at qs session = room_in (slice_get qs session)

abbrev pub pending_at : List Queue → ℕ → ℕ
pending_at qs session = pending_in (slice_get qs session)

-- the notice of each pending watch has room
abbrev pub HaveRoom : List Queue → Type 0
HaveRoom qs = (session : ℕ) → length (told_at qs session) + pending_at qs session ≤ room_at qs session
