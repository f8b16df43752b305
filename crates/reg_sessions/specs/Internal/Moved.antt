-- A hive whose notices were moved on, and nothing else.
use Rattle.std.specs.Prelude.{◌≡◌, ◌≢◌, ◌≤◌, ◌<◌, ℕ, List, [], length, slice_index_or}
use Rattle.reg_model.specs.declared.limits.TheConstants.{SESSIONS_LIMIT}
use Rattle.reg_notify.specs.Tables.{taken_by}
use Rattle.reg_calls.specs.declared.hive.Hive.{Hive}
use Rattle.reg_calls.specs.HiveView.{noted_of}
use Rattle.reg_calls.specs.Views.{View, IsHive}
use Rattle.reg_outbox.specs.Rings.{IsAhead, IsHandedOut}
use Rattle.reg_sessions.specs.Locked.{LineState, IsLine}

-- so many sessions have a seat at a hive
pub record HasSeats {C : Type 0} (hive : Hive C) (n : ℕ) : Type 0 where
  pub many : length (noted_of hive) ≡ n

-- lines into which nothing was sent
abbrev pub AreSilent : List LineState → Type 0
AreSilent lines = (s : ℕ) (d : LineState) → s < length lines → ((slice_index_or lines s d).sent ≡ []) × ((slice_index_or lines s d).kept ≡ 0)

-- some of a session's notices were handed out
abbrev pub AreHandedOut : ℕ → View → View → Type 0
AreHandedOut session old new = (count : ℕ) × IsHandedOut session count old new

-- notices of any sessions were
pub record AreMoved (old new : View) : Type 0 where
  pub taken : (s : ℕ) → taken_by old.watches s ≤ taken_by new.watches s
  pub told : new.watches.told ≡ old.watches.told
  pub pending : new.watches.pending ≡ old.watches.pending
  pub origin : new.origin ≡ old.origin
  pub base : new.base ≡ old.base
  pub before : new.before ≡ old.before
  pub journal : new.journal ≡ old.journal
  pub keys : new.keys ≡ old.keys
  pub handles : new.handles ≡ old.handles
  pub hive : IsHive old → IsHive new

-- a session's line behind a change, before what this told was moved on: where some notices were kept back before it, the ring was full
abbrev pub IsSent : LineState → ℕ → View → Type 0
IsSent line session hive = IsAhead line.sent session hive × (line.kept ≢ 0 → line.free ≡ 0)

-- of a hive's lines those below n were looked at since, the others not yet
pub record AreSentFrom (n : ℕ) (lines : List LineState) (hive : View) : Type 0 where
  pub few : length lines ≤ SESSIONS_LIMIT
  pub sent : (s : ℕ) (d : LineState) → s < length lines → IsSent (slice_index_or lines s d) s hive
  pub looked : (s : ℕ) (d : LineState) → s < n → s < length lines → IsLine (slice_index_or lines s d) s hive
