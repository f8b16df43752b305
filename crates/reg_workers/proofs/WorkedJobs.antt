-- Jobs that are made of parts, and run.
use Rattle.std.proofs.Common.{◌≡◌, ◌+◌, ◌<◌, ◌≤◌, ◌==◌, ℕ, zero, suc, Bool, true, false, List, [], ◌∷◌, ◌++◌, length, get_or, set, take, drop, nat_lt, if◌then◌else◌, unwrap_or, refl, sym, ap, subst, ◌∙◌, inl, inr, arith, drop-cons, add-one}
use Rattle.std.proofs.lemmas.List.{get_or-set_same, get_or-set_other, get_or_append_left, get_or_default}
use Rattle.std.proofs.lemmas.Bool.{cases_eq, cases_lt}
use Rattle.std.proofs.lemmas.Bool.Decides.{nat_tests}
use Rattle.std.proofs.Math.Seq.{get_or-append_seam}
use Rattle.reg_callbacks.specs.Asking.{Answers}
use Rattle.reg_journal.specs.Kept.{Seat, seat}
use Rattle.reg_model.specs.declared.notice.Notice.{Notice}
use Rattle.reg_model.specs.declared.reply.Receipt.{Receipt}
use Rattle.reg_script.specs.LineMeanings.{Meaning, nothing, at_moment, as_session, on_hive, asks, takes_notice, bad, within, meaning_in}
use Rattle.reg_script.specs.LineWords.{words_of}
use Rattle.reg_script.specs.LineMeanings.{reading, verb_of, by_verb}
use Rattle.reg_sessions.specs.declared.job.Work.{Work}
use Rattle.reg_sessions.specs.declared.job.Done.{Done}
use Rattle.reg_sessions.specs.declared.job.Job.{Job}
use Rattle.reg_sessions.specs.Sessions.{SessionState, IsFresh, no_session, session_of, receipts_at, dropped_at, mark_at, handles_at, taken_at}
use Rattle.reg_sessions.specs.Jobs.{AreReady, AreWithin, IsDone, IsLawfulDone, AreLawful, are_of_kinds, receipts_by, notices_by, mark_by, handles_by}
use Rattle.reg_workers.specs.Tasks.{Settings, first_settings, set_by, Task, bad_line, works, task_of, tasks_of, works_of}
use Rattle.reg_workers.specs.Workers.{fresh_session}
use Rattle.reg_workers.specs.Internal.Parts.{PartState, no_part, part_of, part_at}
use Rattle.reg_workers.specs.Internal.Working.{IsJob, AreJobs, IsWorked, AreWorked}

-- ---- each work names a hive that is there

abbrev EachWithin : ℕ → List Work → Type 0
EachWithin hives [] = Unit {0}
EachWithin hives (w ∷ ws) = (w.hive < hives) × EachWithin hives ws

are-within : (hives : ℕ) (ws : List Work) → EachWithin hives ws → AreWithin hives ws
are-within hives [] all i d below = absurd (omega (arith, below))
are-within hives (w ∷ ws) all zero d below = all.0
are-within hives (w ∷ ws) all (suc i) d below = are-within hives ws all.1 i d (omega (arith, below))

each-then : (hives : ℕ) (ts us : List Task) → EachWithin hives (works_of ts) → EachWithin hives (works_of us) → EachWithin hives (works_of (ts ++ us))
each-then hives [] us h k = k
each-then hives (bad_line ∷ ts) us h k = each-then hives ts us h k
each-then hives (works w ∷ ts) us h k = (h.0, each-then hives ts us h.1 k)

task-within : (hives : ℕ) (there : Settings) (meaning : Meaning) → there.hive < hives → EachWithin hives (works_of (task_of there meaning))
task-within hives there nothing below = tt
task-within hives there (at_moment moment) below = tt
task-within hives there (as_session session) below = tt
task-within hives there (on_hive hive) below = tt
task-within hives there (asks call) below = (below, tt)
task-within hives there takes_notice below = (below, tt)
task-within hives there bad below = tt

given-within : (b : Bool) (hives : ℕ) (there : Settings) (meaning : Meaning) → there.hive < hives →
    EachWithin hives (works_of (if b then task_of there meaning else []))
given-within true hives there meaning below = task-within hives there meaning below
given-within false hives there meaning below = tt

set-within : (hives : ℕ) (there : Settings) (meaning : Meaning) → there.hive < hives → (set_by there (within hives meaning)).hive < hives
set-within hives there nothing below = below
set-within hives there (at_moment moment) below = below
set-within hives there (as_session session) below = below
set-within hives there (on_hive hive) below = by (nat_lt hive hives) refl
  where
    by : (b : Bool) → nat_lt hive hives ≡ b → (set_by there (if b then on_hive hive else bad)).hive < hives
    by true t = grind (arith, nat_tests, t)
    by false t = below
set-within hives there (asks call) below = below
set-within hives there takes_notice below = below
set-within hives there bad below = below

line-within : (hives : ℕ) (there : Settings) (line : List ℕ) → there.hive < hives → (set_by there (meaning_in hives line)).hive < hives
unfolding meaning_in
line-within hives there [] below = below
line-within hives there (b ∷ bs) below = by (b == 35)
  where
    by : (t : Bool) → (set_by there (if t then nothing else within hives (unwrap_or (reading verb_of by_verb (words_of (b ∷ bs))) bad))).hive < hives
    by true = below
    by false = set-within hives there (unwrap_or (reading verb_of by_verb (words_of (b ∷ bs))) bad) below

tasks-within : (hives s : ℕ) (lines : List (List ℕ)) (there : Settings) → there.hive < hives → EachWithin hives (works_of (tasks_of hives s lines there))
tasks-within hives s [] there below = tt
tasks-within hives s (l ∷ ls) there below =
    each-then hives (if there.session == s then task_of there (meaning_in hives l) else []) (tasks_of hives s ls (set_by there (meaning_in hives l)))
    (given-within (there.session == s) hives there (meaning_in hives l) below)
    (tasks-within hives s ls (set_by there (meaning_in hives l)) (line-within hives there l below))

pub part_within : (hives s : ℕ) (lines : List (List ℕ)) (part : PartState) → 1 ≤ hives → part ≡ part_of (tasks_of hives s lines first_settings) →
    AreWithin hives part.work
part_within hives s lines part some e =
    subst (λ (p : PartState). AreWithin hives p.work) (sym e)
    (are-within hives (works_of (tasks_of hives s lines first_settings)) (tasks-within hives s lines first_settings (omega (arith, some))))

-- ---- jobs that are made

head_is : {A : Type 0} (x y : A) (s t : List A) → x ∷ s ≡ y ∷ t → x ≡ y
head_is x y s t e = cc

tail_is : {A : Type 0} (x y : A) (s t : List A) → x ∷ s ≡ y ∷ t → s ≡ t
tail_is x y s t e = cc

-- the session of one turn
pub session_next : (all : List SessionState) (at : ℕ) (x : SessionState) (t : List SessionState) → at < length all → x ∷ t ≡ drop at all →
    (x ≡ session_of all at) × (t ≡ drop (at + 1) all)
session_next all at x t below is =
    let cut = drop-cons all at no_session below in (
      head_is x (get_or all at no_session) t (drop (suc at) all) (is ∙ cut),
      tail_is x (get_or all at no_session) t (drop (suc at) all) (is ∙ cut) ∙ ap (λ (k : ℕ). drop k all) (sym (add-one at)),
    )

-- one item more of a list
pub one_more : {A : Type 0} (P : ℕ → A → Type 0) (xs : List A) (at : ℕ) (x : A) → length xs ≡ at →
    ((s : ℕ) (d : A) → s < at → P s (get_or xs s d)) → P at x → (s : ℕ) (d : A) → s < at + 1 → P s (get_or (xs ++ x ∷ []) s d)
one_more P xs at x long all one s d below =
    elim (cases_lt s at) [
      | inl b ↦ subst (λ y. P s y) (sym (get_or_append_left xs (x ∷ []) d s (omega (arith, b, long)))) (all s d b)
      | inr past ↦ (let here : length xs ≡ s = omega (arith, below, past, long) in
          subst (λ y. P s y) (sym (ap (λ (n : ℕ). get_or (xs ++ x ∷ []) n d) (sym here) ∙ get_or-append_seam xs x [] d))
          (subst (λ (n : ℕ). P n x) (sym long ∙ here) one))
    ]

pub grown : {A : Type 0} (P : ℕ → A → Type 0) (xs ys : List A) (at : ℕ) (x : A) → ys ≡ xs ++ x ∷ [] → length xs ≡ at →
    ((s : ℕ) (d : A) → s < at → P s (get_or xs s d)) → P at x → (s : ℕ) (d : A) → s < at + 1 → P s (get_or ys s d)
grown P xs ys at x is long all one s d below = subst (λ zs. P s (get_or zs s d)) (sym is) (one_more P xs at x long all one s d below)

pub job_at : (sessions : List SessionState) (first parts : List PartState) (at : ℕ) (session : SessionState) (part : PartState) (job : Job) →
    session ≡ session_of sessions at → at < length parts → part ≡ get_or parts at part → part_at at parts ≡ part_at at first →
    IsJob session part job → IsJob (session_of sessions at) (part_at at first) job
job_at sessions first parts at session part job is below here same made =
    subst (λ (x : SessionState). IsJob x (part_at at first) job) is
    (subst (λ (p : PartState). IsJob session p job) (here ∙ get_or_default parts at part no_part below ∙ same) made)

-- a part whose works were taken out keeps its replies, and the others are as they were
pub kept_replies : (parts : List PartState) (at s : ℕ) (old new : PartState) → at < length parts → old ≡ get_or parts at old →
    new.replies ≡ old.replies → (part_at s (set parts at new)).replies ≡ (part_at s parts).replies
kept_replies parts at s old new below is same =
    elim (cases_eq s at) [
      | inl e ↦ (
          ap (λ (k : ℕ). (part_at k (set parts at new)).replies) e
          ∙ ap (λ (p : PartState). p.replies) (get_or-set_same parts at new no_part below)
          ∙ same
          ∙ ap (λ (p : PartState). p.replies) (is ∙ get_or_default parts at old no_part below)
          ∙ ap (λ (k : ℕ). (part_at k parts).replies) (sym e))
      | inr ne ↦ ap (λ (p : PartState). p.replies) (get_or-set_other parts at s new no_part ne)
    ]

pub kept_later : (parts : List PartState) (at s : ℕ) (new : PartState) → at + 1 ≤ s → part_at s (set parts at new) ≡ part_at s parts
kept_later parts at s new later = get_or-set_other parts at s new no_part (omega (arith, later))

-- ---- jobs that are run

-- a job of a list, whichever stands for one that isn't there
pub job_there : (jobs : List Job) (s : ℕ) → s < length jobs → (j : Job) × (j ≡ get_or jobs s j)
job_there [] s below = absurd (omega (arith, below))
job_there (x ∷ jobs) zero below = (x, refl)
job_there (x ∷ jobs) (suc s) below = job_there jobs s (omega (arith, below))

pub ready : (hives : ℕ) (sessions : List SessionState) (parts : List PartState) (jobs : List Job) → AreJobs sessions parts jobs →
    length sessions ≡ length parts → ((s : ℕ) → s < length parts → IsFresh s hives (session_of sessions s)) →
    ((s : ℕ) → AreWithin hives (part_at s parts).work) → AreReady hives jobs
ready hives sessions parts jobs made same fresh all s d below =
    let b : s < length sessions = omega (arith, below, made.count) in
    let j = made.each s d b in
    record {
      within = subst (λ (ws : List Work). AreWithin hives ws) (sym j.work) (all s);
      seats = (let seats : length (get_or jobs s d).session.places ≡ hives =
          ap (λ (x : SessionState). length x.places) j.is_session ∙ (fresh s (omega (arith, b, same))).seats in
          subst (λ (n : ℕ). AreWithin n (get_or jobs s d).work.items) (sym seats) (subst (λ (ws : List Work). AreWithin hives ws) (sym j.work) (all s)));
    }

-- what is lawful for a session without receipts and open handles whose marks are 0 is lawful for a fresh one
lawful_from : {C : Type 0} (answers : C → Answers) (session : SessionState) (s : ℕ) (work : List Work) (done : List Done) → session.number ≡ s →
    ((h : ℕ) → receipts_at h session ≡ []) → ((h : ℕ) → dropped_at h session ≡ 0) → ((h : ℕ) → mark_at h session ≡ 0) →
    ((h : ℕ) → handles_at h session ≡ 0) → AreLawful answers session work done →
    AreLawful answers (fresh_session s) work done
lawful_from answers session s work done is none undropped zeros closed all i w d asked told =
    let new : List Receipt = receipts_by w.hive (take i work) (take i done) in
    let seats : seat session.number (dropped_at w.hive session + length (receipts_at w.hive session ++ new)) ≡ seat s (0 + length new) =
    ap (λ (n : ℕ). seat n (dropped_at w.hive session + length (receipts_at w.hive session ++ new))) is
    ∙ ap (λ (n : ℕ). seat s (n + length (receipts_at w.hive session ++ new))) (undropped w.hive)
    ∙ ap (λ (rs : List Receipt). seat s (0 + length (rs ++ new))) (none w.hive) in
    let P : Seat → (reached left : ℕ) → Type 0 = λ p reached left.
    IsLawfulDone answers p (mark_by w.hive reached (take i work) (take i done)) (handles_by w.hive left (take i work) (take i done)) w.moment w.ask d in
    subst (λ (n : ℕ). P (seat s (0 + length new)) 0 n) (closed w.hive)
    (subst (λ (m : ℕ). P (seat s (0 + length new)) m (handles_at w.hive session)) (zeros w.hive)
    (subst (λ (p : Seat). P p (mark_at w.hive session) (handles_at w.hive session)) seats
    (all i w d asked told)))

worked_one : {C : Type 0} (answers : C → Answers) (s hives : ℕ) (session : SessionState) (part : PartState) (old new : Job) → IsFresh s hives session → IsJob session part old →
    IsDone answers old new → IsWorked answers s part new
worked_one answers s hives session part old new fresh job done =
    let all : new.outcomes.items ≡ done.done.done = done.done.outcomes ∙ ap (λ (ds : List Done). ds ++ done.done.done) job.outcomes in
    let is_work = job.work in
    record {
      number = done.done.number ∙ ap (λ (x : SessionState). x.number) job.is_session ∙ fresh.is_number;
      work = done.work ∙ job.work;
      kinds = subst (λ (ds : List Done). are_of_kinds part.work ds ≡ true) (sym all)
          (subst (λ (ws : List Work). are_of_kinds ws done.done.done ≡ true) is_work done.done.kinds);
      lawful = subst (λ (ds : List Done). AreLawful answers (fresh_session s) part.work ds) (sym all)
          (subst (λ (ws : List Work). AreLawful answers (fresh_session s) ws done.done.done) is_work
          (lawful_from answers old.session s old.work.items done.done.done (ap (λ (x : SessionState). x.number) job.is_session ∙ fresh.is_number)
          (λ h. ap (λ (x : SessionState). receipts_at h x) job.is_session ∙ fresh.receipts h)
          (λ h. ap (λ (x : SessionState). dropped_at h x) job.is_session ∙ fresh.dropped h)
          (λ h. ap (λ (x : SessionState). mark_at h x) job.is_session ∙ fresh.marks h)
          (λ h. ap (λ (x : SessionState). handles_at h x) job.is_session ∙ fresh.handles h) done.done.lawful));
      receipts = λ h.
          done.done.receipts h
          ∙ ap (λ (rs : List Receipt). rs ++ receipts_by h old.work.items done.done.done) (ap (λ (x : SessionState). receipts_at h x) job.is_session ∙ fresh.receipts h)
          ∙ ap (λ (ws : List Work). receipts_by h ws done.done.done) is_work
          ∙ ap (λ (ds : List Done). receipts_by h part.work ds) (sym all);
      taken = λ h.
          done.done.taken h
          ∙ ap (λ (ns : List Notice). ns ++ notices_by h old.work.items done.done.done) (ap (λ (x : SessionState). taken_at h x) job.is_session ∙ fresh.taken h)
          ∙ ap (λ (ws : List Work). notices_by h ws done.done.done) is_work
          ∙ ap (λ (ds : List Done). notices_by h part.work ds) (sym all);
    }

pub worked : {C : Type 0} (answers : C → Answers) (hives : ℕ) (sessions : List SessionState) (parts : List PartState) (old new : List Job) → AreJobs sessions parts old →
    length sessions ≡ length parts → ((s : ℕ) → s < length parts → IsFresh s hives (session_of sessions s)) → length new ≡ length old →
    ((s : ℕ) (d : Job) → s < length old → IsDone answers (get_or old s d) (get_or new s d)) → AreWorked answers parts new
worked answers hives sessions parts old new made same fresh long done = record {
  count = long ∙ made.count ∙ same;
  each = λ s d below.
      let b : s < length sessions = omega (arith, below, same) in
      worked_one answers s hives (session_of sessions s) (part_at s parts) (get_or old s d) (get_or new s d) (fresh s below) (made.each s d b)
      (done s d (omega (arith, b, made.count)));
}
