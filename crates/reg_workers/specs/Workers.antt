-- Scripts whose sessions work side by side on several hives (this project's own rules of the script).
use Rattle.std.specs.Prelude.{◌≡◌, ◌≢◌, ◌⊎◌, ℕ, zero, suc, ◌+◌, ◌<◌, Bool, true, false, List, [], ◌++◌, length, map, take, slice_get, Option, Some}
use Rattle.std.specs.Io.KnownBytes.{Appends, Consumes, IsAtEnd}
use Rattle.reg_callbacks.specs.Asking.{Answers}
use Rattle.reg_callbacks.specs.declared.callback.NoCallback.{NoCallback}
use Rattle.reg_model.specs.Histories.{receipts_of}
use Rattle.reg_sessions.specs.declared.job.Done.{Done}
use Rattle.reg_sessions.specs.declared.gathering.Kept.{Kept}
use Rattle.reg_sessions.specs.declared.gathering.Kept.TheVariants.{Receipt as OfReceipt, Notice as OfNotice}
use Rattle.reg_sessions.specs.Jobs.{are_of_kinds, receipts_by, notices_by, AreLawful}
use Rattle.reg_sessions.specs.Gathering.{journal_at, told_at, IsStray}
use Rattle.reg_sessions.specs.Locked.{Held, book_of, IsAdmitted}
use Rattle.reg_sessions.specs.Sessions.{SessionState}
use Rattle.reg_script.specs.declared.engine.ScriptFault.{ScriptFault}
use Rattle.reg_script.specs.declared.engine.ScriptFault.TheVariants.{Read, Write, TooLong, Memory}
use Rattle.reg_script.specs.LineWords.{lines_of}
use Rattle.reg_script.specs.Stops.{AreWithin, IsLeft, IsTaken}
use Rattle.reg_workers.specs.Tasks.{Task, first_settings, tasks_of, works_of, sessions_of}
use Rattle.reg_workers.specs.Texts.{sessions_text, entries_text, end_text}

-- how many changes of the first n sessions were accepted at hive h, by their outcomes
abbrev pub accepted_at : ℕ → (ℕ → List Task) → (ℕ → List Done) → ℕ → ℕ
accepted_at h tasks done zero = 0
accepted_at h tasks done (suc n) = accepted_at h tasks done n + length (receipts_by h (works_of (tasks n)) (done n))

-- how many entries each hive has
abbrev pub entries_of : List Held → List ℕ
entries_of hives = map (λ (b : Held). length b.view.journal) hives

-- each is a hive that a lock's type admits
abbrev pub AreAdmitted : List Held → Type 0
AreAdmitted hives = (h : ℕ) (b : Held) → slice_get hives h ≡ Some b → IsAdmitted (book_of b)

-- the journal of each begins with its hive's first entry of all; so nobody was told anything before it (`began` of IsAdmitted)
abbrev pub AreWhole : List Held → Type 0
AreWhole hives = (h : ℕ) (b : Held) → slice_get hives h ≡ Some b → b.view.base ≡ 0

-- of each session the hive's journal has just the entries of its accepted changes, in order, and there are no others; and the notices that
-- it took are the first of those that the hive told it
pub record HoldsAll (hives : List Held) (tasks : ℕ → List Task) (done : ℕ → List Done) (n h : ℕ) : Type 0 where
  pub entries : (s : ℕ) → receipts_of s (journal_at hives h) ≡ receipts_by h (works_of (tasks s)) (done s)
  pub total : length (journal_at hives h) ≡ accepted_at h tasks done n
  pub delivered : (s : ℕ) → take (length (notices_by h (works_of (tasks s)) (done s))) (told_at hives h s) ≡ notices_by h (works_of (tasks s)) (done s)

-- by what a session was told at a hive: at a place the hive's journal has another entry than its accepted change, or none, or the hive has none
-- to that entry; or the notice that it took there isn't the one that the hive told it
abbrev pub DiffersIn : Kept → List Held → ℕ → ℕ → List Task → List Done → ℕ → Type 0
DiffersIn OfReceipt hives h s tasks done place = slice_get (receipts_of s (journal_at hives h)) place ≢ slice_get (receipts_by h (works_of tasks) done) place
DiffersIn OfNotice hives h s tasks done place = IsStray (notices_by h (works_of tasks) done) (told_at hives h s) place

-- at some place of a session a hive differs from what the session was told
pub record Differs (hives : List Held) (tasks : ℕ → List Task) (done : ℕ → List Done) : Type 0 where
  pub hive : ℕ
  pub is_hive : hive < length hives
  pub session : ℕ
  pub place : ℕ
  pub kept : Kept
  pub differ : DiffersIn kept hives hive session (tasks session) (done session) place

-- what is told at the end is so: each hive holds just what its sessions were told, from its first entry on; or one differs, or lacks its
-- first entries
abbrev pub IsEnd : Bool → List Held → (ℕ → List Task) → (ℕ → List Done) → ℕ → Type 0
IsEnd true hives tasks done n = AreWhole hives × ((h : ℕ) → h < length hives → HoldsAll hives tasks done n h)
IsEnd false hives tasks done n = Differs hives tasks done ⊎ (AreWhole hives → ⊥)

-- a session before its first line: without receipts and open handles, and with marks of 0
abbrev pub fresh_session : ℕ → SessionState
fresh_session s = record { number = s; places = [] }

-- a script's hives have no callback that could refuse a call
abbrev pub no_answers : NoCallback → Answers
no_answers callback session moment path seen = 0

-- the sessions of these lines may write this text together: each work has an outcome of its kind, which is lawful by those before it, and
-- the text has the replies of each session, then how many entries each of as many hives has, and then whether these are what the sessions
-- were told
pub record WritesWorkers (hives : ℕ) (lines : List (List ℕ)) (text : List ℕ) : Type 0 where
  pub done : ℕ → List Done
  pub kinds : (s : ℕ) → s < sessions_of hives lines → are_of_kinds (works_of (tasks_of hives s lines first_settings)) (done s) ≡ true
  pub lawful : (s : ℕ) → s < sessions_of hives lines →
      AreLawful no_answers (fresh_session s) (works_of (tasks_of hives s lines first_settings)) (done s)
  pub audit : List Held
  pub count : length audit ≡ hives
  pub admitted : AreAdmitted audit
  pub gathered : Bool
  pub ends : IsEnd gathered audit (λ s. tasks_of hives s lines first_settings) done (sessions_of hives lines)
  pub text_is : text ≡ sessions_text (λ s. tasks_of hives s lines first_settings) done (sessions_of hives lines)
      ++ (entries_text (entries_of audit) ++ end_text gathered)

-- the input was read to its end, and what was written is a text that the sessions of its lines may write together
pub record RunsWorkers (hives : ℕ) (unread left before after : Option (List ℕ)) : Type 0 where
  pub at_end : IsAtEnd left
  pub script : List ℕ
  pub consumed : Consumes unread left script
  pub within : AreWithin (lines_of script)
  pub text : List ℕ
  pub writes : WritesWorkers hives (lines_of script) text
  pub appended : Appends before after text

-- nothing was written, and of what was read some lines had ended within the bounds, and the rest is as this fault leaves it
pub record StopsBefore (fault : ScriptFault) (unread left before after : Option (List ℕ)) : Type 0 where
  pub lines : List ℕ
  pub rest : List ℕ
  pub read : Consumes unread left (lines ++ rest)
  pub within : AreWithin (lines_of lines)
  pub stands : IsLeft fault lines rest left
  pub same : after ≡ before

-- the input was read to its end, and the writer took just so many of the first bytes of a text that the sessions may write together
pub record StopsWriting (hives written : ℕ) (unread left before after : Option (List ℕ)) : Type 0 where
  pub at_end : IsAtEnd left
  pub script : List ℕ
  pub consumed : Consumes unread left script
  pub within : AreWithin (lines_of script)
  pub text : List ℕ
  pub writes : WritesWorkers hives (lines_of script) text
  pub taken : IsTaken before after text written

-- what each fault leaves
abbrev pub WorkersStop : ℕ → ScriptFault → (unread left before after : Option (List ℕ)) → Type 0
WorkersStop hives Read unread left before after = StopsBefore Read unread left before after
WorkersStop hives (Write written) unread left before after = StopsWriting hives written unread left before after
WorkersStop hives TooLong unread left before after = StopsBefore TooLong unread left before after
WorkersStop hives Memory unread left before after = StopsBefore Memory unread left before after
