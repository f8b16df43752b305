-- What the callbacks answer to a call on its way to them.
use Rattle.std.specs.Prelude.{ℕ}
use Rattle.reg_heap.specs.Paths.{Path}
use Rattle.reg_model.specs.Worlds.{path_at}
use Rattle.reg_model.specs.declared.call.Call.TheVariants as call
use Rattle.reg_callbacks.specs.Asking.{Answers, asks}
use Rattle.reg_callbacks.specs.Lists.{answers_of}
use Rattle.reg_callbacks.specs.declared.view.Seen.{Seen}
use Rattle.reg_callbacks.specs.declared.view.Seen.TheVariants.{Change, Query}
use Rattle.reg_calls.specs.declared.asking.Asking.{Asking}
use Rattle.reg_calls.specs.declared.store.Store.{Store}

-- their status for the call, where its handle's key is at a path
abbrev pub status_at : {C : Type 0} → (C → Answers) → Asking C → Path → ℕ
status_at answers asking p = by asking.seen
  where
    by : Seen → ℕ
    by (Change change) = asks (answers_of answers asking.callbacks.now) asking.session asking.moment p (call.Change change.now)
    by (Query query) = asks (answers_of answers asking.callbacks.now) asking.session 0 p (call.Query query.now)

-- the same by a session's handle
abbrev pub status_by : {C : Type 0} → (C → Answers) → Asking C → Store → ℕ → ℕ → ℕ
status_by answers asking store session handle = status_at answers asking (path_at session handle store.handles.handles)
