-- The shares of a hive's sessions, in their places.
use Rattle.std.specs.Prelude.{◌≡◌, ◌+◌, ◌<◌, ℕ, List, All, length, slice_index_or}
use Rattle.reg_model.specs.declared.limits.TheConstants.{SESSIONS_LIMIT}
use Rattle.reg_model.specs.declared.reply.Entry.{Entry}
use Rattle.reg_model.specs.declared.step.Step.{Step}
use Rattle.reg_model.specs.Histories.{count_of}
use Rattle.reg_journal.specs.Kept.{Seat, seat, IsCurrent}

-- the share at a place
abbrev pub share_at : List Seat → ℕ → Seat
share_at shares place = slice_index_or shares place (seat 0 0)

-- a session's share stands in its place, and its count is the session's row
pub record IsSeated (noted : List ℕ) (es : List Entry) (shares : List Seat) (session : ℕ) : Type 0 where
  pub within : session < length shares
  pub own : (share_at shares session).session ≡ session
  pub current : IsCurrent noted es (share_at shares session)

-- all sessions have such shares
pub record AreSeated (noted : List ℕ) (es : List Entry) (shares : List Seat) : Type 0 where
  pub many : length shares ≡ SESSIONS_LIMIT
  pub all : (session : ℕ) → session < SESSIONS_LIMIT → IsSeated noted es shares session

-- so have all sessions of some steps
abbrev pub HaveSeats : List ℕ → List Entry → List Seat → List Step → Type 0
HaveSeats noted es shares steps = All (λ (s : Step). IsSeated noted es shares s.session) steps

-- each share has counted the entries by which the journal grew and that are of the session of its place
pub record HaveCounted (old new : List Entry) (shares after : List Seat) : Type 0 where
  pub many : length after ≡ length shares
  pub sessions : (place : ℕ) → (share_at after place).session ≡ (share_at shares place).session
  pub counts : (place : ℕ) → place < length shares → (share_at after place).count + count_of place old ≡ (share_at shares place).count + count_of place new
