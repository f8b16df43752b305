-- A plan, line by line.
use Rattle.std.proofs.Common.{◌≡◌, ◌<◌, ◌≤◌, ◌==◌, ℕ, zero, suc, max, Bool, true, false, List, [], ◌∷◌, ◌++◌, length, map, get_or, set, refl, sym, ap, subst, ◌∙◌, inl, inr, arith, append-nil, append_assoc, if◌then◌else◌}
use Rattle.std.proofs.lemmas.List.{get_or-set_same, get_or-set_other, get_or_append_left, get_or_default, length-set, map-append}
use Rattle.std.proofs.lemmas.Bool.{cases_lt}
use Rattle.std.proofs.lemmas.Bool.Decides.{nat_tests}
use Rattle.std.proofs.Math.ListN.{get_or-eq_default}
use Rattle.reg_sessions.specs.declared.job.Work.{Work}
use Rattle.reg_script.specs.LineMeanings.{Meaning, meaning_in}
use Rattle.reg_workers.specs.declared.part.Reply.{Reply}
use Rattle.reg_workers.specs.declared.part.Reply.TheVariants.{Bad, Worked}
use Rattle.reg_workers.specs.declared.plan.Plan.{Plan}
use Rattle.reg_workers.specs.Tasks.{Settings, first_settings, set_by, settings_after, Task, bad_line, works, task_of, tasks_of, works_of, sessions_named, sessions_of}
use Rattle.reg_workers.specs.Internal.Parts.{PartState, no_part, reply_of, part_with, part_of, part_at}
use Rattle.reg_workers.specs.Internal.Plans.{settings_of, IsPlanned, IsPlanOf}

-- ---- one session's part

made : List Reply → List Work → PartState
made replies work = record { replies = replies; work = work }

pub bad_more : (old new : PartState) → new.replies ≡ old.replies ++ Bad ∷ [] → new.work ≡ old.work → new ≡ part_with old (bad_line ∷ [])
unfolding made
bad_more old new replies work =
    ap (λ (r : List Reply). made r new.work) replies ∙ ap (λ (w : List Work). made (old.replies ++ Bad ∷ []) w) (work ∙ sym (append-nil old.work))

pub work_more : (old new : PartState) (work : Work) → new.replies ≡ old.replies ++ Worked ∷ [] → new.work ≡ old.work ++ work ∷ [] →
    new ≡ part_with old (works work ∷ [])
unfolding made
work_more old new work replies is =
    ap (λ (r : List Reply). made r new.work) replies ∙ ap (λ (w : List Work). made (old.replies ++ Worked ∷ []) w) is

none_more : (p : PartState) → part_with p [] ≡ p
unfolding made
none_more p =
    ap (λ (r : List Reply). made r (p.work ++ [])) (append-nil p.replies) ∙ ap (λ (w : List Work). made p.replies w) (append-nil p.work)

works_then : (ts us : List Task) → works_of (ts ++ us) ≡ works_of ts ++ works_of us
works_then [] us = refl
works_then (bad_line ∷ ts) us = works_then ts us
works_then (works w ∷ ts) us = ap (λ (l : List Work). w ∷ l) (works_then ts us)

part_then : (ts us : List Task) → part_with (part_of ts) us ≡ part_of (ts ++ us)
unfolding made
part_then ts us =
    ap (λ (r : List Reply). made r (works_of ts ++ works_of us)) (sym (map-append reply_of ts us))
    ∙ ap (λ (w : List Work). made (map reply_of (ts ++ us)) w) (sym (works_then ts us))

-- ---- the parts of all sessions

-- one part more, with nothing to do
pub part_more : (parts : List PartState) (s : ℕ) → part_at s (parts ++ no_part ∷ []) ≡ part_at s parts
part_more parts s =
    elim (cases_lt s (length parts)) [
      | inl below ↦ get_or_append_left parts (no_part ∷ []) no_part s below
      | inr past ↦ past_end parts s past ∙ sym (get_or-eq_default parts no_part past)
    ]
  where
    past_end : (ps : List PartState) (i : ℕ) → length ps ≤ i → get_or (ps ++ no_part ∷ []) i no_part ≡ no_part
    past_end [] zero past = refl
    past_end [] (suc i) past = refl
    past_end (p ∷ ps) zero past = absurd (omega (arith, past))
    past_end (p ∷ ps) (suc i) past = past_end ps i (omega (arith, past))

-- the part of one session was changed
put_part : (parts : List PartState) (i s : ℕ) (found put : PartState) (tasks : List Task) → i < length parts → found ≡ get_or parts i found →
    put ≡ part_with found tasks → part_at s (set parts i put) ≡ (if i == s then part_with (part_at s parts) tasks else part_at s parts)
put_part parts i s found put tasks within is e = by (i == s) refl
  where
    here : found ≡ part_at i parts
    here = is ∙ get_or_default parts i found no_part within

    by : (b : Bool) → (i == s) ≡ b → part_at s (set parts i put) ≡ (if b then part_with (part_at s parts) tasks else part_at s parts)
    by true t =
        let at : i ≡ s = grind (arith, nat_tests, t) in
        ap (λ (k : ℕ). part_at k (set parts i put)) (sym at) ∙ get_or-set_same parts i put no_part within ∙ e
        ∙ ap (λ (p : PartState). part_with p tasks) (here ∙ ap (λ (k : ℕ). part_at k parts) at)
    by false t = get_or-set_other parts i s put no_part (grind (arith, nat_tests, t))

quiet_part : (b : Bool) (p : PartState) (tasks : List Task) → tasks ≡ [] → p ≡ (if b then part_with p tasks else p)
quiet_part true p tasks none = sym (none_more p) ∙ ap (λ (ts : List Task). part_with p ts) (sym none)
quiet_part false p tasks none = refl

-- ---- a line more

-- it gives nobody a task
pub planned_quiet : (meaning : Meaning) (old new : Plan) → task_of (settings_of old) meaning ≡ [] → new.hives ≡ old.hives →
    settings_of new ≡ set_by (settings_of old) meaning → length new.parts.items ≡ max (length old.parts.items) (sessions_named meaning) →
    ((s : ℕ) → part_at s new.parts.items ≡ part_at s old.parts.items) → IsPlanned meaning old new
planned_quiet meaning old new none hives settings count same = record {
  hives = hives;
  settings = settings;
  count = count;
  parts = λ s. same s ∙ quiet_part (old.session == s) (part_at s old.parts.items) (task_of (settings_of old) meaning) none;
}

-- it gives the session that is set one
pub planned_task : (meaning : Meaning) (old new : Plan) (found put : PartState) → set_by (settings_of old) meaning ≡ settings_of old →
    sessions_named meaning ≡ 1 → new.hives ≡ old.hives → settings_of new ≡ settings_of old → old.session < length old.parts.items →
    found ≡ get_or old.parts.items old.session found → put ≡ part_with found (task_of (settings_of old) meaning) →
    new.parts.items ≡ set old.parts.items old.session put → IsPlanned meaning old new
planned_task meaning old new found put stays one hives settings within is e parts = record {
  hives = hives;
  settings = settings ∙ sym stays;
  count =
      let long : length new.parts.items ≡ length old.parts.items = ap (λ (l : List PartState). length l) parts ∙ length-set old.parts.items old.session put in
      omega (arith, long, one, within);
  parts = λ s. ap (λ (l : List PartState). part_at s l) parts
      ∙ put_part old.parts.items old.session s found put (task_of (settings_of old) meaning) within is e;
}

-- ---- the lines so far

settings_more : (hives : ℕ) (lines : List (List ℕ)) (line : List ℕ) (there : Settings) →
    settings_after hives (lines ++ line ∷ []) there ≡ set_by (settings_after hives lines there) (meaning_in hives line)
settings_more hives [] line there = refl
settings_more hives (l ∷ ls) line there = settings_more hives ls line (set_by there (meaning_in hives l))

given : Settings → ℕ → Meaning → List Task
given there s meaning = if there.session == s then task_of there meaning else []

tasks_more : (hives s : ℕ) (lines : List (List ℕ)) (line : List ℕ) (there : Settings) →
    tasks_of hives s (lines ++ line ∷ []) there ≡ tasks_of hives s lines there ++ given (settings_after hives lines there) s (meaning_in hives line)
unfolding given
tasks_more hives s [] line there = append-nil (given there s (meaning_in hives line))
tasks_more hives s (l ∷ ls) line there =
    ap (λ (ts : List Task). given there s (meaning_in hives l) ++ ts) (tasks_more hives s ls line (set_by there (meaning_in hives l)))
    ∙ sym (append_assoc (given there s (meaning_in hives l)) (tasks_of hives s ls (set_by there (meaning_in hives l)))
    (given (settings_after hives ls (set_by there (meaning_in hives l))) s (meaning_in hives line)))

sessions_more : (hives : ℕ) (lines : List (List ℕ)) (line : List ℕ) →
    sessions_of hives (lines ++ line ∷ []) ≡ max (sessions_of hives lines) (sessions_named (meaning_in hives line))
sessions_more hives [] line = omega arith
sessions_more hives (l ∷ ls) line = let rest = sessions_more hives ls line in omega (arith, rest)

grown : (b : Bool) (p : PartState) (ts us : List Task) → p ≡ part_of ts → (if b then part_with p us else p) ≡ part_of (ts ++ (if b then us else []))
grown true p ts us e = ap (λ (q : PartState). part_with q us) e ∙ part_then ts us
grown false p ts us e = e ∙ ap (λ (l : List Task). part_of l) (sym (append-nil ts))

pub plan_more : (hives : ℕ) (lines : List (List ℕ)) (line : List ℕ) (old new : Plan) → IsPlanOf hives lines old →
    IsPlanned (meaning_in hives line) old new → IsPlanOf hives (lines ++ line ∷ []) new
unfolding given
plan_more hives lines line old new plan more = record {
  is_hives = more.hives ∙ plan.is_hives;
  settings = more.settings ∙ ap (λ (x : Settings). set_by x (meaning_in hives line)) plan.settings ∙ sym (settings_more hives lines line first_settings);
  count = more.count ∙ ap (λ (n : ℕ). max n (sessions_named (meaning_in hives line))) plan.count ∙ sym (sessions_more hives lines line);
  parts = λ s.
      more.parts s
      ∙ grown (old.session == s) (part_at s old.parts.items) (tasks_of hives s lines first_settings) (task_of (settings_of old) (meaning_in hives line)) (plan.parts s)
      ∙ ap (λ (x : Settings). part_of (tasks_of hives s lines first_settings ++ given x s (meaning_in hives line))) plan.settings
      ∙ ap (λ (ts : List Task). part_of ts) (sym (tasks_more hives s lines line first_settings));
}

-- a line that means this is read so on the plan's own hives
pub plan_line : (hives : ℕ) (lines : List (List ℕ)) (line : List ℕ) (meaning : Meaning) (old new : Plan) → meaning ≡ meaning_in old.hives line →
    IsPlanOf hives lines old → IsPlanned meaning old new → IsPlanOf hives (lines ++ line ∷ []) new
plan_line hives lines line meaning old new e plan planned =
    plan_more hives lines line old new plan
    (subst (λ (m : Meaning). IsPlanned m old new) (e ∙ ap (λ (h : ℕ). meaning_in h line) plan.is_hives) planned)
