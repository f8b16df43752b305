-- What calls do with the hive that C holds.
use Rattle.std.specs.Prelude.{◌≡◌, ℕ, ◌<◌, ◌≤◌, ◌⊎◌, nat_lt, if◌then◌else◌, List, [], length, Option, Some, None, unwrap_or}
use Rattle.reg_model.specs.declared.statuses.TheConstants.{INVALID_HANDLE, INVALID_PARAMETER, NOT_ENOUGH_MEMORY}
use Rattle.reg_model.specs.declared.limits.TheConstants.{SESSIONS_LIMIT}
use Rattle.reg_model.specs.Replies.{refusal}
use Rattle.reg_model.specs.Callbacks.{Callbacks}
use Rattle.reg_model.specs.declared.bytes.TheConstants.{INLINE_BYTES}
use Rattle.reg_model.specs.declared.call.Change.{Change}
use Rattle.reg_model.specs.declared.call.Change.TheVariants.{OpenRoot, OpenKey, CreateKey, SetValue, DeleteValue, DeleteKey, DeleteTree, SetSecurity, Notify, Close}
use Rattle.reg_model.specs.declared.call.Query.{Query}
use Rattle.reg_model.specs.declared.call.Query.TheVariants.{QueryValue, EnumKey, EnumValue, QueryInfo, GetSecurity}
use Rattle.reg_model.specs.declared.answer.AnswerBody.{AnswerBody}
use Rattle.reg_model.specs.declared.answer.AnswerBody.TheVariants.{Refused}
use Rattle.reg_model.specs.declared.reply.ChangeReply.{ChangeReply}
use Rattle.reg_callbacks.specs.declared.callback.NoCallback.{NoCallback}
use Rattle.reg_callbacks.specs.Asking.{Answers as Answering}
use Rattle.reg_calls.specs.HiveView.{view_of, asks_of}
use Rattle.reg_calls.specs.Views.{View, state, IsApplied, IsRead}
use Rattle.reg_calls.specs.Rooms.{due}
use Rattle.zugmeled.specs.Held.{HeldHive}

-- no callback refuses
abbrev pub quiet : NoCallback → Answering
quiet = λ callback session moment path seen. 0

-- what is seen of a hive that C holds
abbrev pub seen : HeldHive → View
seen held = view_of held.hive

-- what its callbacks answer: there are none
abbrev pub asks : HeldHive → Callbacks
asks held = asks_of quiet held.hive

-- a change of a session is answered by the hive that C holds, and C holds the hive after it; with no hive 6, else of a session from 64 on
-- 87, and nothing changes
abbrev pub IsChanged : Option HeldHive → Option HeldHive → ℕ → ℕ → Change → ChangeReply → Type 0
IsChanged None new session moment change reply = (reply ≡ refusal INVALID_HANDLE) × (new ≡ None)
IsChanged (Some old) new session moment change reply =
    ((SESSIONS_LIMIT ≤ session) × (reply ≡ refusal INVALID_PARAMETER) × (new ≡ Some old))
    ⊎ ((session < SESSIONS_LIMIT) × (hive : HeldHive) × (new ≡ Some hive)
    × IsApplied (asks old) (seen old) (seen hive) session moment change reply)

-- a question of a session is answered by the hive that C holds; with no hive 6, else of a session from 64 on 87
abbrev pub IsAsked : Option HeldHive → ℕ → Query → AnswerBody → Type 0
IsAsked None session query body = body ≡ Refused INVALID_HANDLE
IsAsked (Some hive) session query body =
    ((SESSIONS_LIMIT ≤ session) × (body ≡ Refused INVALID_PARAMETER))
    ⊎ ((session < SESSIONS_LIMIT) × IsRead (asks hive) (state (seen hive)) session query body)

-- a copy of these bytes takes memory: they are more than stand in the copy itself
abbrev pub IsLong : List ℕ → Type 0
IsLong bytes = INLINE_BYTES < length bytes

-- so of a change: of its path or name, its descriptor or its data
unfoldable pub ChangeTakesMemory : Change → Type 0
ChangeTakesMemory (OpenRoot mask) = ⊥
ChangeTakesMemory (OpenKey handle path mask) = IsLong path
ChangeTakesMemory (CreateKey handle path mask descriptor) = IsLong path ⊎ IsLong (unwrap_or descriptor [])
ChangeTakesMemory (SetValue handle name kind bytes) = IsLong name ⊎ IsLong bytes
ChangeTakesMemory (DeleteValue handle name) = IsLong name
ChangeTakesMemory (DeleteKey handle path) = IsLong path
ChangeTakesMemory (DeleteTree handle path) = IsLong path
ChangeTakesMemory (SetSecurity handle descriptor) = IsLong descriptor
ChangeTakesMemory (Notify handle filter subtree) = ⊥
ChangeTakesMemory (Close handle) = ⊥

-- and of a question
unfoldable pub QueryTakesMemory : Query → Type 0
QueryTakesMemory (QueryValue handle name room) = IsLong name
QueryTakesMemory (EnumKey handle index room) = ⊥
QueryTakesMemory (EnumValue handle index name_room room) = ⊥
QueryTakesMemory (QueryInfo handle) = ⊥
QueryTakesMemory (GetSecurity handle room) = ⊥

-- where memory is refused for a copy, nothing changes: with no hive 6, else of a session from 64 on 87, else 8
abbrev pub IsLack : Option HeldHive → ℕ → ℕ → Type 0
IsLack None session status = status ≡ INVALID_HANDLE
IsLack (Some hive) session status =
    ((SESSIONS_LIMIT ≤ session) × (status ≡ INVALID_PARAMETER))
    ⊎ ((session < SESSIONS_LIMIT) × (status ≡ NOT_ENOUGH_MEMORY))

-- a change, or a question, is answered, or lacks memory for a copy that takes some
abbrev pub IsReplied : Option HeldHive → Option HeldHive → ℕ → ℕ → Change → ChangeReply → Type 0
IsReplied old new session moment change reply =
    (ChangeTakesMemory change × (status : ℕ) × IsLack old session status × (reply ≡ refusal status) × (new ≡ old))
    ⊎ IsChanged old new session moment change reply

abbrev pub IsAnswered : Option HeldHive → ℕ → Query → AnswerBody → Type 0
IsAnswered hive session query body =
    (QueryTakesMemory query × (status : ℕ) × IsLack hive session status × (body ≡ Refused status)) ⊎ IsAsked hive session query body

-- so a call tells what it tells of that reply, or of that answer
abbrev pub Replies : Option HeldHive → Option HeldHive → ℕ → ℕ → Change → (ChangeReply → Type 0) → Type 0
Replies old new session moment change Tells = (reply : ChangeReply) × IsReplied old new session moment change reply × Tells reply

abbrev pub Answers : Option HeldHive → ℕ → Query → (AnswerBody → Type 0) → Type 0
Answers hive session query Tells = (body : AnswerBody) × IsAnswered hive session query body × Tells body

-- the answer that is due to a question of a session; with no hive 6, else of a session from 64 on 87
abbrev pub due_of : Option HeldHive → ℕ → Query → AnswerBody
due_of None session query = Refused INVALID_HANDLE
due_of (Some hive) session query =
    if nat_lt session SESSIONS_LIMIT then due (asks hive) (state (seen hive)) session query else Refused INVALID_PARAMETER

-- that answer is told, or that memory is lacking for a copy of what was given
abbrev pub IsDueTold : Option HeldHive → ℕ → Query → (AnswerBody → Type 0) → Type 0
IsDueTold hive session query Tells =
    (QueryTakesMemory query × (status : ℕ) × IsLack hive session status × Tells (Refused status)) ⊎ Tells (due_of hive session query)
