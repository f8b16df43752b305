-- What is done of jobs.
use Rattle.std.specs.Prelude.{◌≡◌, ◌≢◌, ◌+◌, ◌≤◌, ◌<◌, ◌-◌, ◌⊎◌, ◌==◌, ◌&&◌, ℕ, Bool, true, false, List, [], ◌∷◌, ◌++◌, Some, None, length, take, slice_get, slice_index_or, vec_len, vec_capacity, if◌then◌else◌}
use Rattle.reg_callbacks.specs.Asking.{Answers}
use Rattle.reg_journal.specs.Kept.{Seat, seat}
use Rattle.reg_model.specs.declared.answer.AnswerBody.TheVariants.{Refused}
use Rattle.reg_model.specs.declared.statuses.TheConstants.{BAD_DATABASE}
use Rattle.reg_model.specs.declared.call.Call.TheVariants.{Change, Query}
use Rattle.reg_model.specs.declared.notice.Notice.{Notice as Told}
use Rattle.reg_model.specs.declared.reply.Receipt.{Receipt}
use Rattle.reg_model.specs.declared.step.Outcome.TheVariants.{Changed, Answered}
use Rattle.reg_sessions.specs.declared.job.Work.{Work}
use Rattle.reg_sessions.specs.declared.job.Ask.{Ask}
use Rattle.reg_sessions.specs.declared.job.Ask.TheVariants.{Call, TakeNotice}
use Rattle.reg_sessions.specs.declared.job.Done.{Done}
use Rattle.reg_sessions.specs.declared.job.Done.TheVariants.{Outcome, Notice}
use Rattle.reg_sessions.specs.declared.job.Job.{Job}
use Rattle.reg_sessions.specs.Locked.{IsLawfulOrLacks, IsLawfulAnswer}
use Rattle.reg_sessions.specs.Sessions.{SessionState, receipts_at, dropped_at, mark_at, taken_at, popped_at, waiting_at, notifies_at, handles_at, notice_of, receipt_of, mark_after, mark_told, notifies_after, handles_after}

-- an outcome is of the kind that was asked for: a reply to a change, an answer to a question, a notice or none to who takes one
abbrev pub is_of_kind : Ask → Done → Bool
is_of_kind (Call (Change change)) (Outcome (Changed reply)) = true
is_of_kind (Call (Query query)) (Outcome (Answered answer)) = true
is_of_kind TakeNotice (Notice notice) = true
is_of_kind (Call (Change change)) (Outcome (Answered answer)) = false
is_of_kind (Call (Query query)) (Outcome (Changed reply)) = false
is_of_kind (Call call) (Notice notice) = false
is_of_kind TakeNotice (Outcome outcome) = false

-- one outcome for each work, of its kind, in order
abbrev pub are_of_kinds : List Work → List Done → Bool
are_of_kinds [] [] = true
are_of_kinds [] (d ∷ ds) = false
are_of_kinds (w ∷ ws) [] = false
are_of_kinds (w ∷ ws) (d ∷ ds) = is_of_kind w.ask d && are_of_kinds ws ds

-- the receipt that an outcome gives: of an accepted change
abbrev pub receipts_of_one : ℕ → Ask → Done → List Receipt
receipts_of_one moment (Call (Change change)) (Outcome (Changed reply)) = receipt_of moment change reply
receipts_of_one moment (Call (Change change)) (Outcome (Answered answer)) = []
receipts_of_one moment (Call (Query query)) (Outcome outcome) = []
receipts_of_one moment (Call call) (Notice notice) = []
receipts_of_one moment TakeNotice done = []

-- the receipts that works and their outcomes give at a hive, in order
abbrev pub receipts_by : ℕ → List Work → List Done → List Receipt
receipts_by h [] ds = []
receipts_by h (w ∷ ws) [] = []
receipts_by h (w ∷ ws) (d ∷ ds) = (if h == w.hive then receipts_of_one w.moment w.ask d else []) ++ receipts_by h ws ds

-- the notices that an outcome gives
abbrev pub notices_of_one : Ask → Done → List Told
notices_of_one (Call call) done = []
notices_of_one TakeNotice (Outcome outcome) = []
notices_of_one TakeNotice (Notice notice) = notice_of notice

-- the notices that works and their outcomes give at a hive, in order
abbrev pub notices_by : ℕ → List Work → List Done → List Told
notices_by h [] ds = []
notices_by h (w ∷ ws) [] = []
notices_by h (w ∷ ws) (d ∷ ds) = (if h == w.hive then notices_of_one w.ask d else []) ++ notices_by h ws ds

-- the mark after one outcome
abbrev pub mark_by_one : ℕ → Ask → Done → ℕ
mark_by_one mark (Call (Change change)) (Outcome (Changed reply)) = mark_after mark reply
mark_by_one mark (Call (Change change)) (Outcome (Answered answer)) = mark
mark_by_one mark (Call (Query query)) (Outcome (Changed reply)) = mark
mark_by_one mark (Call (Query query)) (Outcome (Answered answer)) = mark_told mark answer
mark_by_one mark (Call call) (Notice notice) = mark
mark_by_one mark TakeNotice done = mark

-- the mark at a hive after works and their outcomes
abbrev pub mark_by : ℕ → ℕ → List Work → List Done → ℕ
mark_by h mark [] ds = mark
mark_by h mark (w ∷ ws) [] = mark
mark_by h mark (w ∷ ws) (d ∷ ds) = mark_by h (if h == w.hive then mark_by_one mark w.ask d else mark) ws ds

-- how many Notify calls were accepted, after one outcome
abbrev pub notifies_by_one : ℕ → Ask → Done → ℕ
notifies_by_one n (Call (Change change)) (Outcome (Changed reply)) = notifies_after n change reply
notifies_by_one n (Call (Change change)) (Outcome (Answered answer)) = n
notifies_by_one n (Call (Query query)) (Outcome outcome) = n
notifies_by_one n (Call call) (Notice notice) = n
notifies_by_one n TakeNotice done = n

-- how many were at a hive after works and their outcomes
abbrev pub notifies_by : ℕ → ℕ → List Work → List Done → ℕ
notifies_by h n [] ds = n
notifies_by h n (w ∷ ws) [] = n
notifies_by h n (w ∷ ws) (d ∷ ds) = notifies_by h (if h == w.hive then notifies_by_one n w.ask d else n) ws ds

-- how many handles are open, after one outcome
abbrev pub handles_by_one : ℕ → Ask → Done → ℕ
handles_by_one n (Call (Change change)) (Outcome (Changed reply)) = handles_after n change reply
handles_by_one n (Call (Change change)) (Outcome (Answered answer)) = n
handles_by_one n (Call (Query query)) (Outcome outcome) = n
handles_by_one n (Call call) (Notice notice) = n
handles_by_one n TakeNotice done = n

-- how many are at a hive after works and their outcomes
abbrev pub handles_by : ℕ → ℕ → List Work → List Done → ℕ
handles_by h n [] ds = n
handles_by h n (w ∷ ws) [] = n
handles_by h n (w ∷ ws) (d ∷ ds) = handles_by h (if h == w.hive then handles_by_one n w.ask d else n) ws ds

-- what a session with this seat, this mark and so many open handles at a hive may be told there, 1009 aside; a notice that it takes is
-- compared when all are gathered
abbrev pub IsLawfulDone : {C : Type 0} → (C → Answers) → Seat → (mark handles moment : ℕ) → Ask → Done → Type 0
IsLawfulDone answers share mark handles moment (Call (Change change)) (Outcome (Changed reply)) =
    reply.status ≢ BAD_DATABASE → IsLawfulOrLacks answers share mark handles moment change reply
IsLawfulDone answers share mark handles moment (Call (Query query)) (Outcome (Answered answer)) =
    answer.body ≢ Refused BAD_DATABASE → IsLawfulAnswer answers share mark query answer
IsLawfulDone answers share mark handles moment TakeNotice (Notice notice) = Unit {0}
IsLawfulDone answers share mark handles moment ask done = ⊥

-- of works and their outcomes each is lawful by the seat, the mark and the handles that the session has by those before it
abbrev pub AreLawful : {C : Type 0} → (C → Answers) → SessionState → List Work → List Done → Type 0
AreLawful answers s work done =
    (i : ℕ) (w : Work) (d : Done) → slice_get work i ≡ Some w → slice_get done i ≡ Some d →
    IsLawfulDone answers (seat s.number (dropped_at w.hive s + length (receipts_at w.hive s ++ receipts_by w.hive (take i work) (take i done))))
    (mark_by w.hive (mark_at w.hive s) (take i work) (take i done)) (handles_by w.hive (handles_at w.hive s) (take i work) (take i done)) w.moment w.ask d

-- that there is no notice may be told where none is known to wait, or as many were taken as Notify calls were accepted
abbrev pub MayMiss : (waiting notifies taken : ℕ) → Done → Type 0
MayMiss waiting notifies taken (Outcome outcome) = Unit {0}
MayMiss waiting notifies taken (Notice (Some notice)) = Unit {0}
MayMiss waiting notifies taken (Notice None) = (waiting ≡ 0) ⊎ (notifies ≤ taken)

-- so of each work, by those before it: of the notices that were known to wait before all works, those are left that these didn't take
abbrev pub AreMissed : SessionState → List Work → List Done → Type 0
AreMissed s work done =
    (i : ℕ) (w : Work) (d : Done) → slice_get work i ≡ Some w → slice_get done i ≡ Some d →
    MayMiss (length (waiting_at w.hive s) - length (notices_by w.hive (take i work) (take i done)))
    (notifies_by w.hive (notifies_at w.hive s) (take i work) (take i done)) (length (taken_at w.hive s ++ notices_by w.hive (take i work) (take i done))) d

-- the outcomes grew by one for each work, of its kind, lawful, and in order; at each hive the session's receipts grew by just those of its
-- accepted changes with these replies, in order, and none was dropped; its mark is that after them, and so are how many Notify calls were
-- accepted and how many handles are open; and the notices that it took, as what came out of its ring, grew by just those among the
-- outcomes, in order; none was passed over that was known to wait
pub record AreDone {C : Type 0} (answers : C → Answers) (old : SessionState) (work : List Work) (before : List Done) (new : SessionState) (after : List Done) : Type 0 where
  pub done : List Done
  pub outcomes : after ≡ before ++ done
  pub kinds : are_of_kinds work done ≡ true
  pub lawful : AreLawful answers old work done
  pub receipts : (h : ℕ) → receipts_at h new ≡ receipts_at h old ++ receipts_by h work done
  pub dropped : (h : ℕ) → dropped_at h new ≡ dropped_at h old
  pub marks : (h : ℕ) → mark_at h new ≡ mark_by h (mark_at h old) work done
  pub taken : (h : ℕ) → taken_at h new ≡ taken_at h old ++ notices_by h work done
  pub popped : (h : ℕ) → popped_at h new ≡ popped_at h old ++ notices_by h work done
  pub notifies : (h : ℕ) → notifies_at h new ≡ notifies_by h (notifies_at h old) work done
  pub handles : (h : ℕ) → handles_at h new ≡ handles_by h (handles_at h old) work done
  pub missed : AreMissed old work done
  pub waiting : (h : ℕ) → length (waiting_at h old) ≤ length (waiting_at h new) + length (notices_by h work done)
  pub number : new.number ≡ old.number
  pub hives : length new.places ≡ length old.places

-- a job's work was done: it keeps its work and its session, which changed by that work
pub record IsDone {C : Type 0} (answers : C → Answers) (old new : Job) : Type 0 where
  pub work : new.work.items ≡ old.work.items
  pub done : AreDone answers old.session old.work.items old.outcomes.items new.session new.outcomes.items

-- each work names one of so many hives
abbrev pub AreWithin : ℕ → List Work → Type 0
AreWithin hives work = (i : ℕ) (d : Work) → i < length work → (slice_index_or work i d).hive < hives

-- a job can be run at so many hives: each work names one, at which the session has a seat
pub record IsReady (hives : ℕ) (job : Job) : Type 0 where
  pub within : AreWithin hives job.work.items
  pub seats : AreWithin (length job.session.places) job.work.items

-- so can all jobs
abbrev pub AreReady : ℕ → List Job → Type 0
AreReady hives jobs = (i : ℕ) (d : Job) → i < length jobs → IsReady hives (slice_index_or jobs i d)

-- there is room for an outcome of each work
abbrev pub HasRoom : Job → Type 0
HasRoom job = vec_len job.outcomes + vec_len job.work ≤ vec_capacity job.outcomes

-- the same session, work and outcomes
pub record IsSameJob (old new : Job) : Type 0 where
  pub session : new.session ≡ old.session
  pub work : new.work ≡ old.work
  pub outcomes : new.outcomes.items ≡ old.outcomes.items
