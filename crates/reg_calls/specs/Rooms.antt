-- A value's data, or a subkey's name, in the caller's room (Win32 registry reference, `RegQueryValueEx`, `RegEnumKeyEx`).
use Rattle.std.specs.Prelude.{◌≡◌, ℕ, min, nat_eq, List, length, drop, ◌++◌, if◌then◌else◌, Option, Some, None}
use Rattle.reg_model.specs.Callbacks.{Callbacks, query_status}
use Rattle.reg_model.specs.Causes.{State, query_cause}
use Rattle.reg_model.specs.Replies.{body_of}
use Rattle.reg_model.specs.declared.answer.AnswerBody.{AnswerBody}
use Rattle.reg_model.specs.declared.answer.AnswerBody.TheVariants.{Refused, Short, Value, Key}
use Rattle.reg_model.specs.declared.call.Query.{Query}
use Rattle.reg_model.specs.declared.call.Query.TheVariants.{QueryValue, EnumKey}
use Rattle.reg_calls.specs.Views.{is_told}
use Rattle.reg_calls.specs.declared.query_value.ValueTold.{ValueTold}
use Rattle.reg_calls.specs.declared.enum_key.KeyTold.{KeyTold}

-- how many bytes there are, as 32 bits tell it
abbrev pub size_of : List ℕ → ℕ
size_of bytes = min (length bytes) 4294967295

-- how many bytes a room asks for: one of no byte asks for the size alone
abbrev pub asked_of : List ℕ → Option ℕ
asked_of room = if nat_eq (length room) 0 then None else Some (size_of room)

-- bytes over the front of a room that has place for them
abbrev pub laid : List ℕ → List ℕ → List ℕ
laid bytes room = bytes ++ drop (length bytes) room

-- the same, where some are told
abbrev pub laid_if : Option (List ℕ) → List ℕ → List ℕ
laid_if None room = room
laid_if (Some bytes) room = laid bytes room

-- the answer that is due to a question, where the callbacks' status is c: the refusal, or what is told
abbrev pub due_by : ℕ → State → ℕ → Query → AnswerBody
due_by c s session query = is_told (query_cause s session query c) (body_of s session query)

-- the same where these callbacks are asked
abbrev pub due : Callbacks → State → ℕ → Query → AnswerBody
due callbacks s session query = due_by (query_status callbacks s.world session query) s session query

-- a value: its type, its size, and its bytes over the front of the room, where they are told. A question for a value has no other answers
abbrev pub TellsValue : AnswerBody → ValueTold → (old new : List ℕ) → Type 0
TellsValue (Value kind size bytes) told old new = (told ≡ record { status = 0; kind = kind; size = size }) × (new ≡ laid_if bytes old)
TellsValue (Short status kind size) told old new = (told ≡ record { status = status; kind = kind; size = size }) × (new ≡ old)
TellsValue (Refused status) told old new = (told ≡ record { status = status; kind = 0; size = 0 }) × (new ≡ old)
TellsValue other told old new = ⊥

-- a question for the value of a name is answered as is due, where these callbacks are asked, in the caller's room
abbrev pub IsValueRead : Callbacks → State → ℕ → ℕ → List ℕ → ValueTold → (old new : List ℕ) → Type 0
IsValueRead callbacks s session handle name told old new = TellsValue (due callbacks s session (QueryValue handle name (asked_of old))) told old new

-- a subkey: its name over the front of the room, with its size, and its time; of a room that is too short the size alone. A question for a
-- subkey has no other answers
abbrev pub TellsKey : AnswerBody → KeyTold → (old new : List ℕ) → Type 0
TellsKey (Key name time) told old new = (told ≡ record { status = 0; size = length name; time = time }) × (new ≡ laid name old)
TellsKey (Short status kind size) told old new = (told ≡ record { status = status; size = size; time = 0 }) × (new ≡ old)
TellsKey (Refused status) told old new = (told ≡ record { status = status; size = 0; time = 0 }) × (new ≡ old)
TellsKey other told old new = ⊥

-- a question for the subkey at an index is answered as is due, where these callbacks are asked, in the caller's room
abbrev pub IsKeyRead : Callbacks → State → ℕ → ℕ → ℕ → KeyTold → (old new : List ℕ) → Type 0
IsKeyRead callbacks s session handle index told old new = TellsKey (due callbacks s session (EnumKey handle index (size_of old))) told old new
