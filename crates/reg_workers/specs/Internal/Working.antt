-- Jobs that were made of parts, and what is written of them.
use Rattle.std.specs.Prelude.{◌≡◌, ◌⊎◌, ℕ, zero, suc, ◌+◌, ◌<◌, Bool, true, false, List, [], ◌∷◌, ◌++◌, codes, length, map, slice_index_or}
use Rattle.std.specs.Fmt.{decimal}
use Rattle.reg_text.specs.Texts.{line_feed}
use Rattle.reg_callbacks.specs.Asking.{Answers}
use Rattle.reg_sessions.specs.Locked.{Held}
use Rattle.reg_sessions.specs.declared.job.Work.{Work}
use Rattle.reg_sessions.specs.declared.job.Done.{Done}
use Rattle.reg_sessions.specs.declared.job.Job.{Job}
use Rattle.reg_sessions.specs.declared.gathering.Kept.{Kept}
use Rattle.reg_sessions.specs.Sessions.{SessionState, session_of, receipts_at, taken_at}
use Rattle.reg_sessions.specs.Jobs.{are_of_kinds, receipts_by, notices_by, AreLawful}
use Rattle.reg_sessions.specs.Gathering.{IsAudited, IsMismatch}
use Rattle.reg_workers.specs.declared.part.Reply.{Reply}
use Rattle.reg_workers.specs.declared.part.Reply.TheVariants.{Bad, Worked}
use Rattle.reg_workers.specs.Texts.{reply_text, entries_text, end_text}
use Rattle.reg_workers.specs.Workers.{fresh_session, entries_of, AreAdmitted, AreWhole}
use Rattle.reg_workers.specs.Internal.Parts.{PartState, part_at}

-- ---- jobs

-- a session's job, before it is run
pub record IsJob (session : SessionState) (part : PartState) (job : Job) : Type 0 where
  pub is_session : job.session ≡ session
  pub work : job.work.items ≡ part.work
  pub outcomes : job.outcomes.items ≡ []

-- the jobs of sessions
pub record AreJobs (sessions : List SessionState) (parts : List PartState) (jobs : List Job) : Type 0 where
  pub count : length jobs ≡ length sessions
  pub each : (s : ℕ) (d : Job) → s < length sessions → IsJob (session_of sessions s) (part_at s parts) (slice_index_or jobs s d)

-- the job of session s was run, which had no receipt before, and had taken no notice
pub record IsWorked {C : Type 0} (answers : C → Answers) (s : ℕ) (part : PartState) (job : Job) : Type 0 where
  pub number : job.session.number ≡ s
  pub work : job.work.items ≡ part.work
  pub kinds : are_of_kinds part.work job.outcomes.items ≡ true
  pub lawful : AreLawful answers (fresh_session s) part.work job.outcomes.items
  pub receipts : (h : ℕ) → receipts_at h job.session ≡ receipts_by h part.work job.outcomes.items
  pub taken : (h : ℕ) → taken_at h job.session ≡ notices_by h part.work job.outcomes.items

pub record AreWorked {C : Type 0} (answers : C → Answers) (parts : List PartState) (jobs : List Job) : Type 0 where
  pub count : length jobs ≡ length parts
  pub each : (s : ℕ) (d : Job) → s < length parts → IsWorked answers s (part_at s parts) (slice_index_or jobs s d)

-- the same replies
abbrev pub HaveReplies : List PartState → List PartState → Type 0
HaveReplies old new = (s : ℕ) → (part_at s new).replies ≡ (part_at s old).replies

-- ---- what is written of sessions

-- how many of the lines are told what came of their work
abbrev pub works_among : List Reply → ℕ
works_among [] = 0
works_among (Bad ∷ replies) = works_among replies
works_among (Worked ∷ replies) = works_among replies + 1

abbrev pub replies_by : List Reply → List Work → List Done → List ℕ
replies_by [] work done = []
replies_by (Bad ∷ replies) work done = codes "bad\n" ++ replies_by replies work done
replies_by (Worked ∷ replies) [] done = []
replies_by (Worked ∷ replies) (w ∷ work) [] = []
replies_by (Worked ∷ replies) (w ∷ work) (d ∷ done) = reply_text w.ask d ++ replies_by replies work done

abbrev pub session_by : ℕ → List Reply → List Work → List Done → List ℕ
session_by s [] work done = []
session_by s (reply ∷ replies) work done = codes "session " ++ (decimal s ++ (line_feed ++ replies_by (reply ∷ replies) work done))

-- the work, and the outcomes, of job s
abbrev pub work_at : ℕ → List Job → List Work
work_at s jobs = slice_index_or (map (λ (j : Job). j.work.items) jobs) s []

abbrev pub done_at : ℕ → List Job → List Done
done_at s jobs = slice_index_or (map (λ (j : Job). j.outcomes.items) jobs) s []

abbrev pub sessions_by : List PartState → List Job → ℕ → List ℕ
sessions_by parts jobs zero = []
sessions_by parts jobs (suc n) = sessions_by parts jobs n ++ session_by n (part_at n parts).replies (work_at n jobs) (done_at n jobs)

-- the outcomes can be written
pub record IsWritable (part : PartState) (job : Job) : Type 0 where
  pub kinds : are_of_kinds job.work.items job.outcomes.items ≡ true
  pub count : works_among part.replies ≡ length job.work.items

-- the reply to one line was written; the works and outcomes that are left go on from here
pub record IsWritten (reply : Reply) (work : List Work) (done : List Done) (old new : List ℕ) (work' : List Work) (done' : List Done) : Type 0 where
  pub text : (replies : List Reply) → new ++ replies_by replies work' done' ≡ old ++ replies_by (reply ∷ replies) work done
  pub kinds : are_of_kinds work' done' ≡ true

-- ---- what is written of hives

-- what is told at the end is what gathering answers, where no hive lacks its first entries
abbrev pub IsGatheredSo : Bool → List Held → List SessionState → Type 0
IsGatheredSo true hives sessions = AreWhole hives × ((h : ℕ) → h < length hives → IsAudited hives sessions h)
IsGatheredSo false hives sessions = ((h : ℕ) × (s : ℕ) × (place : ℕ) × (kept : Kept) × IsMismatch hives sessions h s place kept) ⊎ (AreWhole hives → ⊥)

-- the end was written
pub record IsTold (hives : ℕ) (sessions : List SessionState) (old new : List ℕ) : Type 0 where
  pub booked : List Held
  pub count : length booked ≡ hives
  pub admitted : AreAdmitted booked
  pub gathered : Bool
  pub ends : IsGatheredSo gathered booked sessions
  pub text : new ≡ old ++ (entries_text (entries_of booked) ++ end_text gathered)

-- all was written
pub record IsToldOf (hives : ℕ) (parts : List PartState) (jobs : List Job) (old new : List ℕ) : Type 0 where
  pub mid : List ℕ
  pub sessions : mid ≡ old ++ sessions_by parts jobs (length jobs)
  pub told : IsTold hives (map (λ (j : Job). j.session) jobs) mid new

-- all parts were worked on, and all was written
pub record IsWorkedOn {C : Type 0} (answers : C → Answers) (hives : ℕ) (parts : List PartState) (old new : List ℕ) : Type 0 where
  pub jobs : List Job
  pub kept : List PartState
  pub worked : AreWorked answers parts jobs
  pub same : HaveReplies parts kept
  pub told : IsToldOf hives kept jobs old new
