-- What is known once the sessions are gathered.
use Rattle.std.specs.Prelude.{◌≡◌, ◌≢◌, ◌<◌, ℕ, List, [], Option, Some, None, length, take, sum_by, slice_get}
use Rattle.reg_model.specs.Histories.{receipts_of}
use Rattle.reg_model.specs.declared.reply.Entry.{Entry}
use Rattle.reg_model.specs.declared.reply.Receipt.{Receipt}
use Rattle.reg_model.specs.declared.notice.Notice.{Notice as Told}
use Rattle.reg_journal.specs.Kept.{total_of}
use Rattle.reg_calls.specs.Views.{next_of, told_in}
use Rattle.reg_sessions.specs.Locked.{Held, LineState}
use Rattle.reg_sessions.specs.Sessions.{SessionState, Shape, AreInOrder, receipts_at, taken_at, session_of}
use Rattle.reg_sessions.specs.declared.gathering.Kept.{Kept}
use Rattle.reg_sessions.specs.declared.gathering.Kept.TheVariants.{Receipt as OfReceipt, Notice as OfNotice}
use Rattle.reg_sessions.specs.declared.gathering.GatherFault.{GatherFault}
use Rattle.reg_sessions.specs.declared.gathering.GatherFault.TheVariants.{Mismatch, Sessions}

-- the receipts of session s at hive h; none where there is no such session
abbrev pub receipts_by : List SessionState → ℕ → ℕ → List Receipt
receipts_by sessions h s = receipts_at h (session_of sessions s)

-- of each session the journal of hive h has just the entries that it has receipts of, in order. Of a number that is no session's it has none
abbrev pub IsGathered : List Entry → ℕ → List SessionState → Type 0
IsGathered journal h sessions = (s : ℕ) → receipts_of s journal ≡ receipts_by sessions h s

-- at a place the receipt of a session's entry and the session's receipt differ, or one is missing
abbrev pub Differ : List Entry → ℕ → List SessionState → ℕ → ℕ → Type 0
Differ journal h sessions s place = slice_get (receipts_of s journal) place ≢ slice_get (receipts_by sessions h s) place

abbrev pub journal_of : Option Held → List Entry
journal_of None = []
journal_of (Some b) = b.view.journal

-- the journal of hive h
abbrev pub journal_at : List Held → ℕ → List Entry
journal_at hives h = journal_of (slice_get hives h)

-- the ends of the rings that stand with hive h
abbrev pub lines_of : Option Held → List LineState
lines_of None = []
lines_of (Some b) = b.lines

abbrev pub lines_at : List Held → ℕ → List LineState
lines_at hives h = lines_of (slice_get hives h)

-- how many changes were accepted: those of the journal, and those before it
abbrev pub made_of : Option Held → ℕ
made_of None = 0
made_of (Some b) = next_of b.view

-- how many changes hive h accepted
abbrev pub made_at : List Held → ℕ → ℕ
made_at hives h = made_of (slice_get hives h)

-- how many changes of all sessions the book's rows count
abbrev pub rows_of : Option Held → ℕ
rows_of None = 0
rows_of (Some b) = total_of b.noted b.view.journal

abbrev pub rows_at : List Held → ℕ → ℕ
rows_at hives h = rows_of (slice_get hives h)

-- the notices that session s took of hive h; none where there is no such session
abbrev pub taken_by : List SessionState → ℕ → ℕ → List Told
taken_by sessions h s = taken_at h (session_of sessions s)

-- all notices that a hive told a session
abbrev pub told_of : Option Held → ℕ → List Told
told_of None s = []
told_of (Some b) s = told_in b.view s

abbrev pub told_at : List Held → ℕ → ℕ → List Told
told_at hives h s = told_of (slice_get hives h) s

-- what is known of hive h since its last checkpoint: each accepted change of each session is one entry of its journal, in order, and there
-- are no others; so it has as many entries as all sessions have receipts there. Each session took the first of the notices that it was told there, in order, each once
pub record IsAudited (hives : List Held) (sessions : List SessionState) (h : ℕ) : Type 0 where
  pub gathered : IsGathered (journal_at hives h) h sessions
  pub total : length (journal_at hives h) ≡ sum_by (λ s. length (receipts_at h s)) sessions
  pub delivered : (s : ℕ) → take (length (taken_by sessions h s)) (told_at hives h s) ≡ taken_by sessions h s

-- the notice that session s took of hive h at a place isn't the one that it was told there, or it was told fewer
pub record IsStray (taken told : List Told) (place : ℕ) : Type 0 where
  pub was_taken : place < length taken
  pub differ : slice_get told place ≢ slice_get taken place

-- what was kept at a place differs
abbrev pub KeptDiffer : Kept → List Held → List SessionState → (h s place : ℕ) → Type 0
KeptDiffer OfReceipt hives sessions h s place = Differ (journal_at hives h) h sessions s place
KeptDiffer OfNotice hives sessions h s place = IsStray (taken_by sessions h s) (told_at hives h s) place

-- a difference at a hive that is there
pub record IsMismatch (hives : List Held) (sessions : List SessionState) (h s place : ℕ) (kept : Kept) : Type 0 where
  pub within : h < length hives
  pub differ : KeptDiffer kept hives sessions h s place

-- when each fault is due: a mismatch, of a receipt or of a notice, where the sessions are those that were started, in order, and there is that
-- difference; the sessions where they aren't, and they come back with the registry
abbrev pub IsDue : {C : Type 0} → Shape → List SessionState → GatherFault C → Type 0
IsDue shape given (Mismatch h s place kept audit) = AreInOrder shape.sessions given × (length audit ≡ shape.hives) × IsMismatch audit given h s place kept
IsDue shape given (Sessions registry sessions) = (registry ≡ shape) × (sessions.items ≡ given) × (AreInOrder shape.sessions given → ⊥)
