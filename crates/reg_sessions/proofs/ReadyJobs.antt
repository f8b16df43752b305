-- Jobs that can be run, one after another.
use Rattle.std.proofs.Common.{◌≡◌, ◌+◌, ◌≤◌, ◌<◌, ℕ, List, length, slice_index_or, sym, ap, ◌∙◌, subst, inl, inr, arith}
use Rattle.std.proofs.lemmas.List.{get_or_default}
use Rattle.std.proofs.lemmas.Bool.{cases_eq}
use Rattle.reg_sessions.specs.Sessions.{SessionState}
use Rattle.reg_sessions.specs.declared.job.Job.{Job}
use Rattle.reg_sessions.specs.declared.job.Work.{Work}
use Rattle.reg_sessions.specs.Jobs.{IsReady, IsSameJob, AreReady, AreWithin}

pub all_ready : (hives : ℕ) (jobs : List Job) (i : ℕ) → length jobs ≤ i → ((k : ℕ) (d : Job) → k < i → IsReady hives (slice_index_or jobs k d)) → AreReady hives jobs
all_ready hives jobs i past all k d below = all k d (omega (arith, below, past))

-- one job more
pub ready_more : (hives : ℕ) (jobs : List Job) (i : ℕ) (j : Job) → i < length jobs → j ≡ slice_index_or jobs i j
    → ((k : ℕ) (d : Job) → k < i → IsReady hives (slice_index_or jobs k d)) → IsReady hives j → (k : ℕ) (d : Job) → k < i + 1 → IsReady hives (slice_index_or jobs k d)
ready_more hives jobs i j within is all one k d below =
    elim (cases_eq k i) [
      | inl e ↦ subst (λ (n : ℕ). IsReady hives (slice_index_or jobs n d)) (sym e)
          (subst (λ (x : Job). IsReady hives x) (is ∙ get_or_default jobs i j d within) one)
      | inr ne ↦ all k d (omega (arith, below, ne))
    ]

-- where all are, a job that is found among them is
pub ready_there : (hives : ℕ) (jobs : List Job) (i : ℕ) (j : Job) → i < length jobs → j ≡ slice_index_or jobs i j → AreReady hives jobs → IsReady hives j
ready_there hives jobs i j within is all = subst (λ (x : Job). IsReady hives x) (sym is) (all i j within)

-- room changes nothing of that
pub still_ready : (hives : ℕ) {a b : Job} → IsSameJob a b → IsReady hives a → IsReady hives b
still_ready hives {a} {b} p r =
    let works : b.work.items ≡ a.work.items = ap (λ v. v.items) p.work in
    let places : length b.session.places ≡ length a.session.places = ap (λ (s : SessionState). length s.places) p.session in
    record {
      within = subst (λ (ws : List Work). AreWithin hives ws) (sym works) r.within;
      seats = subst (λ (n : ℕ). AreWithin n b.work.items) (sym places) (subst (λ (ws : List Work). AreWithin (length a.session.places) ws) (sym works) r.seats);
    }
