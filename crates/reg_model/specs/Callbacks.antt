-- What the callbacks of a hive answer (this project's own).
use Rattle.std.specs.Prelude.{ℕ}
use Rattle.reg_heap.specs.Paths.{Path}
use Rattle.reg_model.specs.Worlds.{World, path_at}
use Rattle.reg_model.specs.Causes.{path_asked, rule_of}
use Rattle.reg_model.specs.declared.call.Change.{Change}
use Rattle.reg_model.specs.declared.call.Query.{Query}
use Rattle.reg_model.specs.declared.call.Query.TheVariants.{QueryValue, EnumKey, EnumValue, QueryInfo, GetSecurity}
use Rattle.reg_model.specs.declared.call.Call.{Call}
use Rattle.reg_model.specs.declared.call.Call.TheVariants as call

-- the status that they answer, 0 for none: of a session, at a moment (0 for a question), for the path of the key that is asked, a call
abbrev pub Callbacks : Type 0
Callbacks = ℕ → ℕ → Path → Call → ℕ

-- a hive without callbacks: every call may go on
abbrev pub no_callbacks : Callbacks
no_callbacks session moment path call = 0

-- the handle that a question is asked by
abbrev pub handle_asked : Query → ℕ
handle_asked (QueryValue h name room) = h
handle_asked (EnumKey h index room) = h
handle_asked (EnumValue h index name_room room) = h
handle_asked (QueryInfo h) = h
handle_asked (GetSecurity h room) = h

-- the callbacks' status for a change, and for a question
abbrev pub change_status : Callbacks → World → ℕ → ℕ → Change → ℕ
change_status callbacks w session moment change = callbacks session moment (path_asked w session (rule_of change).of) (call.Change change)

abbrev pub query_status : Callbacks → World → ℕ → Query → ℕ
query_status callbacks w session query = callbacks session 0 (path_at session (handle_asked query) w.handles) (call.Query query)
