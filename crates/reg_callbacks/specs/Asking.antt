-- What callbacks answer (this project's own; `CmRegisterCallbackEx`, pre-notifications).
use Rattle.std.specs.Prelude.{ℕ, List, [], ◌∷◌, ◌==◌, if◌then◌else◌, map}
use Rattle.reg_names.specs.Names.{text_of}
use Rattle.reg_model.specs.Callbacks.{Callbacks}
use Rattle.reg_model.specs.declared.call.Call.{Call}
use Rattle.reg_model.specs.declared.call.Call.TheVariants as call
use Rattle.reg_callbacks.specs.declared.view.CallView.{CallView}
use Rattle.reg_callbacks.specs.declared.view.Seen.{Seen}
use Rattle.reg_callbacks.specs.declared.view.Seen.TheVariants.{Change, Query}

-- what one callback answers: of a session, at a moment (0 for a question), for the path text of the key that is asked, a call
abbrev pub Answers : Type 0
Answers = ℕ → ℕ → List ℕ → Call → ℕ

-- the first status that isn't 0, or 0
abbrev pub first_refusal : List ℕ → ℕ
first_refusal [] = 0
first_refusal (status ∷ statuses) = if status == 0 then first_refusal statuses else status

-- what a callback answers to what is seen
abbrev pub status_seen : CallView → Answers → ℕ
status_seen view answers = by view.seen
  where
    by : Seen → ℕ
    by (Change change) = answers view.session view.moment view.path.now (call.Change change.now)
    by (Query query) = answers view.session 0 view.path.now (call.Query query.now)

-- what callbacks answer to what is seen, asked in this order
abbrev pub status_of : List Answers → CallView → ℕ
status_of callbacks view = first_refusal (map (status_seen view) callbacks)

-- what callbacks of these answers are to the causes of a hive's refusals: a function of the session, the moment, the path and the call
abbrev pub asks : List Answers → Callbacks
asks callbacks session moment path call = first_refusal (map (λ answers. answers session moment (text_of path) call) callbacks)
