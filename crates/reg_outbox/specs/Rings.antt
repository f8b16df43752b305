-- Rings of notices, and what a hive keeps back (this project's own).
use Rattle.std.specs.Prelude.{◌≡◌, ℕ, ◌+◌, ◌==◌, List, ◌++◌, drop, if◌then◌else◌}
use Rattle.reg_model.specs.declared.notice.Notice.{Notice}
use Rattle.reg_notify.specs.Tables.{taken_by}
use Rattle.reg_calls.specs.Views.{View, IsHive, told_in}

-- all that was sent into a ring, and for how many notices it is known to have room
pub record RingState : Type 0 where
  pub sent : List Notice
  pub free : ℕ

-- all that came out of a ring, and the notices that are known to wait in it, which come next
pub record InboxState : Type 0 where
  pub received : List Notice
  pub waiting : List Notice

-- what a hive keeps back for a session: of all that it was told, what wasn't handed out yet
abbrev pub backlog_of : ℕ → View → List Notice
backlog_of session hive = drop (taken_by hive.watches session) (told_in hive session)

-- what was sent, followed by what is kept back, is all that the session was told
abbrev pub IsAhead : List Notice → ℕ → View → Type 0
IsAhead sent session hive = sent ++ backlog_of session hive ≡ told_in hive session

-- so many notices of a session were handed out: the first of those that were kept back. Nothing else changed
pub record IsHandedOut (session count : ℕ) (old new : View) : Type 0 where
  pub taken : (s : ℕ) → taken_by new.watches s ≡ (if s == session then taken_by old.watches s + count else taken_by old.watches s)
  pub told : new.watches.told ≡ old.watches.told
  pub pending : new.watches.pending ≡ old.watches.pending
  pub origin : new.origin ≡ old.origin
  pub base : new.base ≡ old.base
  pub before : new.before ≡ old.before
  pub journal : new.journal ≡ old.journal
  pub keys : new.keys ≡ old.keys
  pub handles : new.handles ≡ old.handles
  pub hive : IsHive old → IsHive new
