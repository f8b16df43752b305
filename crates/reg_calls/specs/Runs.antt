-- Runs of calls.
use Rattle.std.specs.Prelude.{◌≡◌, List, [], ◌∷◌}
use Rattle.reg_model.specs.Callbacks.{Callbacks}
use Rattle.reg_model.specs.declared.call.Call.{Call}
use Rattle.reg_model.specs.declared.call.Call.TheVariants.{Change, Query}
use Rattle.reg_model.specs.declared.step.Step.{Step}
use Rattle.reg_model.specs.declared.step.Outcome.{Outcome}
use Rattle.reg_model.specs.declared.step.Outcome.TheVariants.{Changed, Answered}
use Rattle.reg_calls.specs.Views.{View, next_of, state, IsApplied, IsRead}

-- one step from a hive to the next: a change is answered by a reply, and a question by an answer, which changes nothing
abbrev pub IsStep : Callbacks → View → Step → Outcome → View → Type 0
IsStep callbacks old s outcome new = by s.call outcome
  where
    by : Call → Outcome → Type 0
    by (Change change) (Changed reply) = IsApplied callbacks old new s.session s.moment change reply
    by (Query query) (Answered answer) = (answer.at ≡ next_of old) × IsRead callbacks (state old) s.session query answer.body × (new ≡ old)
    by (Change change) (Answered answer) = ⊥
    by (Query query) (Changed reply) = ⊥

-- the hive may give these outcomes to these steps, one after another, and is then the last
abbrev pub Run : Callbacks → View → List Step → List Outcome → View → Type 0
Run callbacks old [] [] new = new ≡ old
Run callbacks old (s ∷ ss) (r ∷ rs) new = (mid : View) × IsStep callbacks old s r mid × Run callbacks mid ss rs new
Run callbacks old [] (r ∷ rs) new = ⊥
Run callbacks old (s ∷ ss) [] new = ⊥
