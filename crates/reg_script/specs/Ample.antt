-- Scripts for which memory and space suffice (this project's own).
use Rattle.std.specs.Prelude.{◌≡◌, ◌≢◌, ℕ, List, [], ◌∷◌, None}
use Rattle.reg_model.specs.Causes.{change_cause, query_cause}
use Rattle.reg_model.specs.Callbacks.{Callbacks, change_status, query_status}
use Rattle.reg_model.specs.declared.answer.AnswerBody.TheVariants.{Refused}
use Rattle.reg_model.specs.declared.call.Call.{Call}
use Rattle.reg_model.specs.declared.call.Call.TheVariants.{Change, Query}
use Rattle.reg_model.specs.declared.step.Step.{Step}
use Rattle.reg_model.specs.declared.step.Outcome.{Outcome}
use Rattle.reg_model.specs.declared.step.Outcome.TheVariants.{Changed, Answered}
use Rattle.reg_calls.specs.Views.{View, state}
use Rattle.reg_script.specs.LineWords.{lines_of}
use Rattle.reg_script.specs.LineMeanings.{Meaning, nothing, at_moment, as_session, on_hive, asks, takes_notice, bad, meaning_of}
use Rattle.reg_script.specs.Lines.{Stand, begins, IsSaid, AreSaid, Lines}

-- no 8 and no 1450 for space: what nothing refuses is accepted, or answered with its bytes
abbrev pub IsDue : Callbacks → View → Step → Outcome → Type 0
IsDue callbacks old s outcome = by s.call outcome
  where
    by : Call → Outcome → Type 0
    by (Change change) (Changed reply) =
        change_cause (state old) s.session change (change_status callbacks (state old).world s.session s.moment change) ≡ None →
        reply.status ≡ 0
    by (Query query) (Answered answer) =
        query_cause (state old) s.session query (query_status callbacks (state old).world s.session query) ≡ None →
        answer.body ≢ Refused 8
    by (Change change) (Answered answer) = ⊥
    by (Query query) (Changed reply) = ⊥

-- so it was for a line's call, if the line has one
abbrev pub IsAmple : (meaning : Meaning) (old : Stand) (text : List ℕ) (new : Stand) → IsSaid meaning old text new → Type 0
IsAmple nothing old text new said = Unit {0}
IsAmple (at_moment moment) old text new said = Unit {0}
IsAmple (as_session session) old text new said = Unit {0}
IsAmple (on_hive hive) old text new said = Unit {0}
IsAmple bad old text new said = Unit {0}
IsAmple takes_notice old text new said = Unit {0}
IsAmple (asks call) old text new said = IsDue old.callbacks old.hive (record { session = old.session; moment = old.moment; call = call }) said.0

-- so it was for each line's
abbrev pub AreAmple : (lines : List (List ℕ)) (old : Stand) (text : List ℕ) (new : Stand) → AreSaid lines old text new → Type 0
AreAmple [] old text new said = Unit {0}
AreAmple (line ∷ lines) old text new said = IsAmple (meaning_of line) old said.1 said.0 said.3 × AreAmple lines said.0 said.2 new said.4

-- a run of a script in which it was so
pub record AmpleLines (callbacks : Callbacks) (old : View) (script text : List ℕ) (new : View) : Type 0 where
  pub lines : Lines callbacks old script text new
  pub ample : AreAmple (lines_of script) (begins callbacks old) text lines.0 lines.1

-- where it is so, a script writes one text, whatever the callbacks answer
abbrev pub HasOneText : Type 0
HasOneText =
    (callbacks : Callbacks) (old new new' : View) (script text text' : List ℕ) → AmpleLines callbacks old script text new →
    AmpleLines callbacks old script text' new' → text ≡ text'
