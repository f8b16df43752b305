-- Sessions, as their callers see them.
use Rattle.std.specs.Prelude.{◌≡◌, ◌+◌, ◌-◌, ◌<◌, ◌==◌, ◌&&◌, ℕ, Bool, true, false, List, [], ◌∷◌, Option, Some, None, length, nat_lt, slice_index_or, unwrap_or, if◌then◌else◌}
use Rattle.std.specs.Option.{is_some}
use Rattle.reg_model.specs.declared.answer.Answer.{Answer}
use Rattle.reg_model.specs.declared.answer.AnswerBody.{AnswerBody}
use Rattle.reg_model.specs.declared.answer.AnswerBody.TheVariants.{Refused, Short, Value, Key, Member, Info, Security}
use Rattle.reg_model.specs.declared.call.Change.{Change}
use Rattle.reg_model.specs.declared.call.Change.TheVariants.{OpenRoot, OpenKey, CreateKey, SetValue, DeleteValue, DeleteKey, DeleteTree, SetSecurity, Notify, Close}
use Rattle.reg_model.specs.declared.notice.Notice.{Notice}
use Rattle.reg_model.specs.declared.reply.ChangeReply.{ChangeReply}
use Rattle.reg_model.specs.declared.reply.Receipt.{Receipt}
use Rattle.reg_journal.specs.Kept.{Seat, seat}

-- how many hives a registry has, and how many sessions
pub record Shape : Type 0 where
  pub hives : ℕ
  pub sessions : ℕ

-- what a session has at a hive: its seat, its receipts since the hive's last checkpoint, how many a checkpoint dropped, and its mark; the
-- notices that it took, all that came out of its ring, and those that are known to wait in it; how many of its handles are open there, and
-- how many Notify calls were accepted
pub record PlaceState : Type 0 where
  pub seat : Seat
  pub receipts : List Receipt
  pub dropped : ℕ
  pub mark : ℕ
  pub taken : List Notice
  pub popped : List Notice
  pub waiting : List Notice
  pub handles : ℕ
  pub notifies : ℕ

abbrev pub no_place : PlaceState
no_place = record { seat = seat 0 0; receipts = []; dropped = 0; mark = 0; taken = []; popped = []; waiting = []; handles = 0; notifies = 0 }

-- the seat, whose share counts the receipts, dropped ones too
abbrev pub seat_of : PlaceState → Seat
seat_of p = seat p.seat.session (p.dropped + length p.receipts)

-- the same without its receipts, which were dropped, and without an open handle
abbrev pub without_receipts : PlaceState → PlaceState
without_receipts p = record p { receipts = []; dropped = p.dropped + length p.receipts; handles = 0 }

abbrev pub place_of : List PlaceState → ℕ → PlaceState
place_of places hive = slice_index_or places hive no_place

pub record SessionState : Type 0 where
  pub number : ℕ
  pub places : List PlaceState

-- the receipts of a session at a hive, how many were dropped, how many accepted changes its share counts there, and its mark
abbrev pub receipts_at : ℕ → SessionState → List Receipt
receipts_at hive s = (place_of s.places hive).receipts

abbrev pub dropped_at : ℕ → SessionState → ℕ
dropped_at hive s = (place_of s.places hive).dropped

abbrev pub count_at : ℕ → SessionState → ℕ
count_at hive s = (place_of s.places hive).seat.count

-- the session's seat at a hive, whose share counts its receipts there, dropped ones too
abbrev pub seat_at : ℕ → SessionState → Seat
seat_at hive s = seat s.number (dropped_at hive s + length (receipts_at hive s))

abbrev pub mark_at : ℕ → SessionState → ℕ
mark_at hive s = (place_of s.places hive).mark

-- the notices of a hive that a session took, and all that came out of its ring there
abbrev pub taken_at : ℕ → SessionState → List Notice
taken_at hive s = (place_of s.places hive).taken

abbrev pub popped_at : ℕ → SessionState → List Notice
popped_at hive s = (place_of s.places hive).popped

-- the notices that are known to wait in its ring there: `take_notice` gives them next
abbrev pub waiting_at : ℕ → SessionState → List Notice
waiting_at hive s = (place_of s.places hive).waiting

-- how many Notify calls of the session were accepted there: for the notice of each it has room
abbrev pub notifies_at : ℕ → SessionState → ℕ
notifies_at hive s = (place_of s.places hive).notifies

-- how many handles of the session are open there, as its accepted changes tell; a checkpoint finds none
abbrev pub handles_at : ℕ → SessionState → ℕ
handles_at hive s = (place_of s.places hive).handles

-- what is taken: one notice, or none
abbrev pub notice_of : Option Notice → List Notice
notice_of None = []
notice_of (Some notice) = notice ∷ []

-- the receipt of a change, where it was accepted
abbrev pub receipt_of : ℕ → Change → ChangeReply → List Receipt
receipt_of moment change reply = if reply.status == 0 then record { number = unwrap_or reply.number 0; moment = moment; change = change; reply = reply } ∷ [] else []

-- the mark after a change: the number after its own, where it was accepted
abbrev pub mark_after : ℕ → ChangeReply → ℕ
mark_after mark reply = if reply.status == 0 then unwrap_or reply.number 0 + 1 else mark

-- the status of an answer
abbrev pub status_told : AnswerBody → ℕ
status_told (Refused status) = status
status_told (Short status kind size) = status
status_told (Value kind size bytes) = 0
status_told (Key name time) = 0
status_told (Member name kind size bytes) = 0
status_told (Info subkeys longest_key values longest_value largest security time) = 0
status_told (Security bytes) = 0

-- the mark after an answer: how many entries the hive has had, where the status is 0
abbrev pub mark_told : ℕ → Answer → ℕ
mark_told mark answer = if status_told answer.body == 0 then answer.at else mark

-- the change closes a handle
abbrev pub closes : Change → Bool
closes (OpenRoot mask) = false
closes (OpenKey h path mask) = false
closes (CreateKey h path mask descriptor) = false
closes (SetValue h name kind bytes) = false
closes (DeleteValue h name) = false
closes (DeleteKey h path) = false
closes (DeleteTree h path) = false
closes (SetSecurity h descriptor) = false
closes (Notify h filter subtree) = false
closes (Close h) = true

-- the change sets a watch
abbrev pub watches : Change → Bool
watches (OpenRoot mask) = false
watches (OpenKey h path mask) = false
watches (CreateKey h path mask descriptor) = false
watches (SetValue h name kind bytes) = false
watches (DeleteValue h name) = false
watches (DeleteKey h path) = false
watches (DeleteTree h path) = false
watches (SetSecurity h descriptor) = false
watches (Notify h filter subtree) = true
watches (Close h) = false

-- how many Notify calls were accepted, after a change
abbrev pub notifies_after : ℕ → Change → ChangeReply → ℕ
notifies_after n change reply = if reply.status == 0 && watches change then n + 1 else n

-- how many handles are open after a change: behind a Close one less, behind a call that opens one, one more
abbrev pub handles_after : ℕ → Change → ChangeReply → ℕ
handles_after n change reply = if reply.status == 0 then (if closes change then n - 1 else if is_some reply.handle then n + 1 else n) else n

abbrev pub no_session : SessionState
no_session = record { number = 0; places = [] }

abbrev pub session_of : List SessionState → ℕ → SessionState
session_of sessions s = slice_index_or sessions s no_session

-- of a session the receipts at a hive were dropped, and nothing else changed
pub record IsDropped (hive : ℕ) (old new : SessionState) : Type 0 where
  pub number : new.number ≡ old.number
  pub seats : length new.places ≡ length old.places
  pub places : (h : ℕ) → place_of new.places h ≡ (if h == hive then without_receipts (place_of old.places h) else place_of old.places h)

-- the sessions are those below n, in order
abbrev pub AreInOrder : ℕ → List SessionState → Type 0
AreInOrder n sessions = (length sessions ≡ n) × ((s : ℕ) → s < n → (session_of sessions s).number ≡ s)

-- a session that was just started: it has a seat at each of so many hives, no receipt, marks of 0, no handle, and took no notice
pub record IsFresh (number hives : ℕ) (s : SessionState) : Type 0 where
  pub is_number : s.number ≡ number
  pub seats : length s.places ≡ hives
  pub receipts : (h : ℕ) → receipts_at h s ≡ []
  pub dropped : (h : ℕ) → dropped_at h s ≡ 0
  pub marks : (h : ℕ) → mark_at h s ≡ 0
  pub taken : (h : ℕ) → taken_at h s ≡ []
  pub popped : (h : ℕ) → popped_at h s ≡ []
  pub waiting : (h : ℕ) → waiting_at h s ≡ []
  pub notifies : (h : ℕ) → notifies_at h s ≡ 0
  pub handles : (h : ℕ) → handles_at h s ≡ 0

-- all sessions are so; the first of them have seats at one hive more
abbrev pub AreFresh : ℕ → ℕ → List SessionState → Type 0
AreFresh hives first sessions = (s : ℕ) → s < length sessions → IsFresh s (if nat_lt s first then hives + 1 else hives) (session_of sessions s)
