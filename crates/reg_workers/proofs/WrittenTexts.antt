-- What was written is a text of the lines' sessions.
use Rattle.std.proofs.Common.{◌≡◌, ◌≢◌, ◌<◌, ◌≤◌, ℕ, zero, suc, Bool, true, false, IsTrue, List, [], ◌∷◌, ◌++◌, codes, length, map, get_or, take, sum_by, slice_get, refl, sym, ap, subst, ◌∙◌, inl, inr, arith, append_assoc, add-one}
use Rattle.std.proofs.lemmas.List.{take_more, length-map}
use Rattle.std.proofs.lemmas.Bool.{cases_lt}
use Rattle.std.proofs.lemmas.List.Sums.{sum_by-append}
use Rattle.std.proofs.Math.ListN.{get_or-eq_default}
use Rattle.std.specs.Fmt.{decimal}
use Rattle.reg_text.specs.Texts.{line_feed}
use Rattle.reg_callbacks.specs.Asking.{Answers}
use Rattle.reg_sessions.specs.Locked.{Held}
use Rattle.reg_model.specs.Histories.{receipts_of}
use Rattle.reg_model.specs.declared.notice.Notice.{Notice as Told}
use Rattle.reg_model.specs.declared.reply.Receipt.{Receipt}
use Rattle.reg_sessions.specs.declared.job.Work.{Work}
use Rattle.reg_sessions.specs.declared.job.Done.{Done}
use Rattle.reg_sessions.specs.declared.job.Job.{Job}
use Rattle.reg_sessions.specs.declared.gathering.Kept.{Kept}
use Rattle.reg_sessions.specs.declared.gathering.Kept.TheVariants.{Receipt as OfReceipt, Notice as OfNotice}
use Rattle.reg_sessions.specs.Sessions.{SessionState, AreInOrder, no_session, session_of, receipts_at, taken_at}
use Rattle.reg_sessions.specs.Jobs.{are_of_kinds, receipts_by, notices_by, AreLawful}
use Rattle.reg_sessions.specs.Gathering.{IsMismatch, IsAudited, IsStray, KeptDiffer, journal_at, told_at}
use Rattle.reg_workers.specs.declared.part.Reply.{Reply}
use Rattle.reg_workers.specs.Tasks.{first_settings, Task, bad_line, works, tasks_of, works_of, sessions_of}
use Rattle.reg_workers.specs.Texts.{reply_text, replies_text, session_text, sessions_text, entries_text, end_text}
use Rattle.reg_workers.specs.Workers.{accepted_at, entries_of, AreAdmitted, AreWhole, HoldsAll, IsEnd, DiffersIn, fresh_session, no_answers, WritesWorkers}
use Rattle.reg_workers.specs.Internal.Parts.{PartState, no_part, reply_of, part_of, part_at}
use Rattle.reg_workers.specs.Internal.Working.{AreWorked, IsWorked, HaveReplies, works_among, replies_by, session_by, work_at, done_at, sessions_by, IsWritable, IsGatheredSo, IsTold, IsToldOf}
use Rattle.reg_workers.proofs.WrittenReplies.{work_at_is, done_at_is}
use Rattle.reg_workers.proofs.WorkedJobs.{job_there}

-- ---- tasks and what was kept of them

replies_same : (ts : List Task) (ds : List Done) → replies_by (map reply_of ts) (works_of ts) ds ≡ replies_text ts ds
replies_same [] ds = refl
replies_same (bad_line ∷ ts) ds = ap (λ (t : List ℕ). codes "bad\n" ++ t) (replies_same ts ds)
replies_same (works w ∷ ts) [] = refl
replies_same (works w ∷ ts) (d ∷ ds) = ap (λ (t : List ℕ). reply_text w.ask d ++ t) (replies_same ts ds)

session_same : (s : ℕ) (ts : List Task) (ds : List Done) → session_by s (map reply_of ts) (works_of ts) ds ≡ session_text s ts ds
session_same s [] ds = refl
session_same s (t ∷ ts) ds = ap (λ (x : List ℕ). codes "session " ++ (decimal s ++ (line_feed ++ x))) (replies_same (t ∷ ts) ds)

among_same : (ts : List Task) → works_among (map reply_of ts) ≡ length (works_of ts)
among_same [] = refl
among_same (bad_line ∷ ts) = among_same ts
among_same (works w ∷ ts) = let rest = among_same ts in omega (arith, rest)

-- ---- the jobs that were run can be written

pub writable : {C : Type 0} (answers : C → Answers) (parts kept : List PartState) (jobs : List Job) → AreWorked answers parts jobs → HaveReplies parts kept →
    ((s : ℕ) → works_among (part_at s parts).replies ≡ length (part_at s parts).work) →
    (s : ℕ) (d : Job) → s < length jobs → IsWritable (part_at s kept) (get_or jobs s d)
writable answers parts kept jobs worked same counted s d below =
    let j = worked.each s d (omega (arith, below, worked.count)) in
    record {
      kinds = subst (λ (ws : List Work). are_of_kinds ws (get_or jobs s d).outcomes.items ≡ true) (sym j.work) j.kinds;
      count = ap works_among (same s) ∙ counted s ∙ ap (λ (ws : List Work). length ws) (sym j.work);
    }

pub part_counted : (hives s : ℕ) (lines : List (List ℕ)) (part : PartState) → part ≡ part_of (tasks_of hives s lines first_settings) →
    works_among part.replies ≡ length part.work
part_counted hives s lines part e =
    subst (λ (p : PartState). works_among p.replies ≡ length p.work) (sym e) (among_same (tasks_of hives s lines first_settings))

-- the sessions of jobs are in order
session_there : (jobs : List Job) (s : ℕ) (j : Job) → s < length jobs → j ≡ get_or jobs s j →
    session_of (map (λ (k : Job). k.session) jobs) s ≡ j.session
session_there [] s j below is = absurd (omega (arith, below))
session_there (x ∷ jobs) zero j below is = ap (λ (k : Job). k.session) (sym is)
session_there (x ∷ jobs) (suc s) j below is = session_there jobs s j (omega (arith, below)) is

pub in_order : (n : ℕ) (jobs : List Job) (sessions : List SessionState) → sessions ≡ map (λ (k : Job). k.session) jobs → length jobs ≡ n →
    ((s : ℕ) (d : Job) → s < length jobs → (get_or jobs s d).session.number ≡ s) → AreInOrder n sessions
in_order n jobs sessions are count numbers = subst (λ (ss : List SessionState). AreInOrder n ss) (sym are) (
  length-map jobs (λ (k : Job). k.session) ∙ count,
  (λ s below.
      let b : s < length jobs = omega (arith, below, count) in
      let j = job_there jobs s b in
      ap (λ (x : SessionState). x.number) (session_there jobs s j.0 b j.1) ∙ ap (λ (k : Job). k.session.number) j.1 ∙ numbers s j.0 b),
)

-- ---- all together

module _ (hives : ℕ) (lines : List (List ℕ)) (parts kept : List PartState) (jobs : List Job)
    (planned : (s : ℕ) → part_at s parts ≡ part_of (tasks_of hives s lines first_settings)) (count : length parts ≡ sessions_of hives lines)
    (worked : AreWorked no_answers parts jobs) (same : HaveReplies parts kept) where
  abbrev tasks : ℕ → List Task
  tasks s = tasks_of hives s lines first_settings

  abbrev done : ℕ → List Done
  done s = done_at s jobs

  abbrev sessions : List SessionState
  sessions = map (λ (j : Job). j.session) jobs

  below_parts : (s : ℕ) → s < length jobs → s < length parts
  below_parts s below = omega (arith, below, worked.count)

  -- what is known of a job that is there
  there : (s : ℕ) (below : s < length jobs) (j : Job) → j ≡ get_or jobs s j → IsWorked no_answers s (part_at s parts) j
  there s below j is = subst (λ (k : Job). IsWorked no_answers s (part_at s parts) k) (sym is) (worked.each s j (below_parts s below))

  work_is : (s : ℕ) → (part_at s parts).work ≡ works_of (tasks s)
  work_is s = ap (λ (p : PartState). p.work) (planned s)

  replies_are : (s : ℕ) → (part_at s kept).replies ≡ map reply_of (tasks s)
  replies_are s = same s ∙ ap (λ (p : PartState). p.replies) (planned s)

  work_there : (s : ℕ) → s < length jobs → work_at s jobs ≡ works_of (tasks s)
  work_there s below =
      let j = job_there jobs s below in
      work_at_is jobs s j.0 below j.1 ∙ (there s below j.0 j.1).work ∙ work_is s

  kinds_there : (s : ℕ) → s < length jobs → are_of_kinds (works_of (tasks s)) (done s) ≡ true
  kinds_there s below =
      let j = job_there jobs s below in
      subst (λ (ds : List Done). are_of_kinds (works_of (tasks s)) ds ≡ true) (sym (done_at_is jobs s j.0 below j.1))
      (subst (λ (ws : List Work). are_of_kinds ws j.0.outcomes.items ≡ true) (work_is s) (there s below j.0 j.1).kinds)

  lawful_there : (s : ℕ) → s < length jobs → AreLawful no_answers (fresh_session s) (works_of (tasks s)) (done s)
  lawful_there s below =
      let j = job_there jobs s below in
      subst (λ (ds : List Done). AreLawful no_answers (fresh_session s) (works_of (tasks s)) ds) (sym (done_at_is jobs s j.0 below j.1))
      (subst (λ (ws : List Work). AreLawful no_answers (fresh_session s) ws j.0.outcomes.items) (work_is s) (there s below j.0 j.1).lawful)

  -- the receipts of any session are those of its outcomes
  receipts_are : (s h : ℕ) → receipts_at h (session_of sessions s) ≡ receipts_by h (works_of (tasks s)) (done s)
  receipts_are s h =
      elim (cases_lt s (length jobs)) [
        | inl below ↦ (let j = job_there jobs s below in
            ap (λ (x : SessionState). receipts_at h x) (session_there jobs s j.0 below j.1)
            ∙ (there s below j.0 j.1).receipts h
            ∙ ap (λ (ws : List Work). receipts_by h ws j.0.outcomes.items) (work_is s)
            ∙ ap (λ (ds : List Done). receipts_by h (works_of (tasks s)) ds) (sym (done_at_is jobs s j.0 below j.1)))
        | inr past ↦ (let no_work : works_of (tasks s) ≡ [] =
            sym (work_is s) ∙ ap (λ (p : PartState). p.work) (get_or-eq_default parts no_part (omega (arith, past, worked.count))) in
            let long = length-map jobs (λ (j : Job). j.session) in
            ap (λ (x : SessionState). receipts_at h x) (get_or-eq_default sessions no_session (omega (arith, past, long)))
            ∙ ap (λ (ws : List Work). receipts_by h ws (done s)) (sym no_work))
      ]

  -- so are the notices that it took
  taken_are : (s h : ℕ) → taken_at h (session_of sessions s) ≡ notices_by h (works_of (tasks s)) (done s)
  taken_are s h =
      elim (cases_lt s (length jobs)) [
        | inl below ↦ (let j = job_there jobs s below in
            ap (λ (x : SessionState). taken_at h x) (session_there jobs s j.0 below j.1)
            ∙ (there s below j.0 j.1).taken h
            ∙ ap (λ (ws : List Work). notices_by h ws j.0.outcomes.items) (work_is s)
            ∙ ap (λ (ds : List Done). notices_by h (works_of (tasks s)) ds) (sym (done_at_is jobs s j.0 below j.1)))
        | inr past ↦ (let no_work : works_of (tasks s) ≡ [] =
            sym (work_is s) ∙ ap (λ (p : PartState). p.work) (get_or-eq_default parts no_part (omega (arith, past, worked.count))) in
            let long = length-map jobs (λ (j : Job). j.session) in
            ap (λ (x : SessionState). taken_at h x) (get_or-eq_default sessions no_session (omega (arith, past, long)))
            ∙ ap (λ (ws : List Work). notices_by h ws (done s)) (sym no_work))
      ]

  differ_so : (kept' : Kept) (booked : List Held) (h s place : ℕ) → KeptDiffer kept' booked sessions h s place →
      DiffersIn kept' booked h s (tasks s) (done s) place
  differ_so OfReceipt booked h s place d =
      subst (λ (rs : List Receipt). slice_get (receipts_of s (journal_at booked h)) place ≢ slice_get rs place) (receipts_are s h) d
  differ_so OfNotice booked h s place d = subst (λ (ns : List Told). IsStray ns (told_at booked h s) place) (taken_are s h) d

  text_same : (n : ℕ) → n ≤ length jobs → sessions_by kept jobs n ≡ sessions_text tasks done n
  text_same zero few = refl
  text_same (suc n) few =
      let below : n < length jobs = omega (arith, few) in
      ap (λ (t : List ℕ). t ++ session_by n (part_at n kept).replies (work_at n jobs) (done n)) (text_same n (omega (arith, few)))
      ∙ ap (λ (t : List ℕ). sessions_text tasks done n ++ t) (ap (λ (rs : List Reply). session_by n rs (work_at n jobs) (done n)) (replies_are n)
      ∙ ap (λ (ws : List Work). session_by n (map reply_of (tasks n)) ws (done n)) (work_there n below)
      ∙ session_same n (tasks n) (done n))

  take_nothing : (xs : List SessionState) → take 0 xs ≡ []
  take_nothing [] = refl
  take_nothing (x ∷ xs) = refl

  sum_same : (h n : ℕ) → n ≤ length sessions → sum_by (λ s. length (receipts_at h s)) (take n sessions) ≡ accepted_at h tasks done n
  sum_same h zero few = ap (λ (xs : List SessionState). sum_by (λ s. length (receipts_at h s)) xs) (take_nothing sessions)
  sum_same h (suc n) few =
      let below : n < length sessions = omega (arith, few) in
      let rest = sum_same h n (omega (arith, few)) in
      let longer : take (suc n) sessions ≡ take n sessions ++ session_of sessions n ∷ [] =
      ap (λ (k : ℕ). take k sessions) (sym (add-one n)) ∙ take_more sessions n no_session below in
      let split = ap (λ (xs : List SessionState). sum_by (λ s. length (receipts_at h s)) xs) longer
      ∙ sum_by-append (λ (s : SessionState). length (receipts_at h s)) (take n sessions) (session_of sessions n ∷ []) in
      let one : length (receipts_at h (session_of sessions n)) ≡ length (receipts_by h (works_of (tasks n)) (done n)) =
      ap (λ (rs : List Receipt). length rs) (receipts_are n h) in
      omega (arith, split, rest, one)

  take_whole : (xs : List SessionState) (n : ℕ) → length xs ≡ n → take n xs ≡ xs
  take_whole [] zero e = refl
  take_whole [] (suc n) e = absurd (omega (arith, e))
  take_whole (x ∷ xs) zero e = absurd (omega (arith, e))
  take_whole (x ∷ xs) (suc n) e = ap (λ ys. x ∷ ys) (take_whole xs n (omega (arith, e)))

  number_of_jobs : length jobs ≡ sessions_of hives lines
  number_of_jobs = worked.count ∙ count

  number_of_sessions : length sessions ≡ sessions_of hives lines
  number_of_sessions = length-map jobs (λ (j : Job). j.session) ∙ number_of_jobs

  holds_so : (booked : List Held) → ((h : ℕ) → h < length booked → IsAudited booked sessions h) → (h : ℕ) → h < length booked →
      HoldsAll booked tasks done (sessions_of hives lines) h
  holds_so booked h n below = record {
    entries = λ s. (h n below).gathered s ∙ receipts_are s n;
    total = (h n below).total
        ∙ ap (λ (xs : List SessionState). sum_by (λ s. length (receipts_at n s)) xs) (sym (take_whole sessions (sessions_of hives lines) number_of_sessions))
        ∙ sum_same n (sessions_of hives lines) (omega (arith, number_of_sessions));
    delivered = λ s. subst (λ (ns : List Told). take (length ns) (told_at booked n s) ≡ ns) (taken_are s n) ((h n below).delivered s);
  }

  ends_so : (gathered : Bool) (booked : List Held) → IsGatheredSo gathered booked sessions → IsEnd gathered booked tasks done (sessions_of hives lines)
  ends_so true booked h = (h.0, holds_so booked h.1)
  ends_so false booked (inr short) = inr short
  ends_so false booked (inl h) = inl (record {
    hive = h.0;
    is_hive = h.4.within;
    session = h.1;
    place = h.2;
    kept = h.3;
    differ = differ_so h.3 booked h.0 h.1 h.2 h.4.differ;
  })

  pub written : (old new : List ℕ) → IsToldOf hives kept jobs old new → (told : List ℕ) × WritesWorkers hives lines told × (new ≡ old ++ told)
  written old new h = (
    sessions_text tasks done (sessions_of hives lines) ++ (entries_text (entries_of h.told.booked) ++ end_text h.told.gathered),
    record {
      done = done;
      kinds = λ s below. kinds_there s (omega (arith, below, number_of_jobs));
      lawful = λ s below. lawful_there s (omega (arith, below, number_of_jobs));
      audit = h.told.booked;
      count = h.told.count;
      admitted = h.told.admitted;
      gathered = h.told.gathered;
      ends = ends_so h.told.gathered h.told.booked h.told.ends;
      text_is = refl;
    },
    (h.told.text
        ∙ ap (λ (t : List ℕ). t ++ (entries_text (entries_of h.told.booked) ++ end_text h.told.gathered)) (h.sessions
        ∙ ap (λ (t : List ℕ). old ++ t) (text_same (length jobs) (omega arith) ∙ ap (λ (n : ℕ). sessions_text tasks done n) number_of_jobs))
        ∙ append_assoc old (sessions_text tasks done (sessions_of hives lines)) (entries_text (entries_of h.told.booked) ++ end_text h.told.gathered)),
  )

-- ---- what gathering answers

pub told_gathered : (hives : ℕ) (all : List SessionState) (audit : List Held) (whole : Bool) (old new : List ℕ) → length audit ≡ hives → AreAdmitted audit →
    ((h : ℕ) → h < length audit → IsAudited audit all h) → (IsTrue whole → AreWhole audit) → (AreWhole audit → IsTrue whole) →
    new ≡ old ++ (entries_text (entries_of audit) ++ end_text whole) → IsTold hives all old new
told_gathered hives all audit whole old new long admitted audited is_whole not_whole text = record {
  booked = audit;
  count = long;
  admitted = admitted;
  gathered = whole;
  ends = by whole is_whole not_whole;
  text = text;
}
  where
    no_true : false ≡ true → ⊥
    no_true e = cc

    by : (b : Bool) → (IsTrue b → AreWhole audit) → (AreWhole audit → IsTrue b) → IsGatheredSo b audit all
    by true f g = (f refl, audited)
    by false f g = inr (λ all_whole. no_true (g all_whole))

pub told_differs : (hives h s place : ℕ) (kept : Kept) (all : List SessionState) (audit : List Held) (old new : List ℕ) → length audit ≡ hives → AreAdmitted audit →
    IsMismatch audit all h s place kept → new ≡ old ++ (entries_text (entries_of audit) ++ end_text false) → IsTold hives all old new
told_differs hives h s place kept all audit old new long admitted differ text = record {
  booked = audit;
  count = long;
  admitted = admitted;
  gathered = false;
  ends = inl (h, s, place, kept, differ);
  text = text;
}
