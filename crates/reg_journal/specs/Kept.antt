-- What a journal and a share are to their callers.
use Rattle.std.specs.Prelude.{◌≡◌, ◌+◌, ◌<◌, ◌≤◌, ℕ, List, length, slice_index, sum_by}
use Rattle.std.specs.List.{range_with_len}
use Rattle.reg_model.specs.Histories.{count_of}
use Rattle.reg_model.specs.declared.limits.TheConstants.{NUMBERS_LIMIT, SESSIONS_LIMIT}
use Rattle.reg_model.specs.declared.reply.Entry.{Entry}

-- of each session that has a seat, how many entries it had before the base; the number of the first entry that is kept, the entries
-- from it on, and the room that is kept for more
pub record Kept : Type 0 where
  pub noted : List ℕ
  pub base : ℕ
  pub entries : List Entry
  pub room : ℕ

-- a session's seat, and how many of its calls were accepted
pub record Seat : Type 0 where
  pub session : ℕ
  pub count : ℕ

abbrev pub seat : ℕ → ℕ → Seat
seat session count = record { session = session; count = count }

-- the row of a session in the journal's book: how many entries it has had
abbrev pub row_of : List ℕ → List Entry → ℕ → ℕ
row_of noted es session = slice_index noted session + count_of session es

-- the entries of all sessions together, those that were cut among them: the sum of the book's rows
abbrev pub total_of : List ℕ → List Entry → ℕ
total_of noted es = sum_by (row_of noted es) (range_with_len 0 (length noted))

-- the book of a journal that begins at the base: a row for each session that has a seat, which is what was noted of it and the number of its
-- entries; no more was noted of a session than entries came before the base, and where no session has a seat none did; all rows together
-- are the number of all entries
pub record IsBook (base : ℕ) (noted : List ℕ) (rows : List ℕ) (es : List Entry) : Type 0 where
  pub numbers : base ≤ NUMBERS_LIMIT
  pub few : length rows ≤ SESSIONS_LIMIT
  pub many : length noted ≡ length rows
  pub rows_are : (session : ℕ) → slice_index rows session ≡ row_of noted es session
  pub most : (session : ℕ) → slice_index noted session ≤ base
  pub unseated : length rows ≡ 0 → base ≡ 0
  pub total : total_of noted es ≡ base + length es

-- the share's session has a seat, and its count is the row
pub record IsCurrent (noted : List ℕ) (es : List Entry) (share : Seat) : Type 0 where
  pub seated : share.session < length noted
  pub counted : share.count ≡ row_of noted es share.session
