-- A run goes on by one step.
use Rattle.std.proofs.Common.{◌≡◌, List, [], ◌∷◌, ◌++◌, refl, subst}
use Rattle.reg_model.specs.declared.step.Step.{Step}
use Rattle.reg_model.specs.declared.step.Outcome.{Outcome}
use Rattle.reg_model.specs.Callbacks.{Callbacks}
use Rattle.reg_callbacks.specs.declared.callbacks.Callbacks.{Callbacks as TheCallbacks}
use Rattle.reg_callbacks.specs.Asking.{Answers, asks}
use Rattle.reg_callbacks.specs.Lists.{answers_of}
use Rattle.reg_calls.specs.Views.{View}
use Rattle.reg_calls.specs.Runs.{Run, IsStep}

pub Run-push : (callbacks : Callbacks) (old mid new : View) (ss : List Step) (rs : List Outcome) (s : Step) (r : Outcome) → Run callbacks old ss rs mid →
    IsStep callbacks mid s r new → Run callbacks old (ss ++ s ∷ []) (rs ++ r ∷ []) new
Run-push callbacks old mid new [] [] s r ran step = (new, subst (λ (v : View). IsStep callbacks v s r new) ran step, refl)
Run-push callbacks old mid new [] (r' ∷ rs) s r ran step = absurd ran
Run-push callbacks old mid new (s' ∷ ss) [] s r ran step = absurd ran
Run-push callbacks old mid new (s' ∷ ss) (r' ∷ rs) s r ran step = (ran.0, ran.1, Run-push callbacks ran.0 mid new ss rs s r ran.2 step)

-- the same where the callbacks stayed up to there
pub Run-more : {C : Type 0} (answers : C → Answers) (a b : TheCallbacks C) (old mid new : View) (ss : List Step) (rs : List Outcome) (s : Step) (r : Outcome) → a ≡ b →
    Run (asks (answers_of answers b)) old ss rs mid → IsStep (asks (answers_of answers a)) mid s r new → Run (asks (answers_of answers b)) old (ss ++ s ∷ []) (rs ++ r ∷ []) new
Run-more answers a b old mid new ss rs s r e ran step =
    Run-push (asks (answers_of answers b)) old mid new ss rs s r ran (subst (λ k. IsStep (asks (answers_of answers k)) mid s r new) e step)
