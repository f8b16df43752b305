-- What goes out of an answer or a notice to the caller's variables and rooms. Each question is answered by bodies of its own kind, by short ones
-- and by refusals; of another one, which never comes, 87 is told.
use Rattle.std.specs.Prelude.{◌≡◌, ℕ, List, Option, Some, None}
use Rattle.std.specs.Option.{unwrap_or}
use Rattle.reg_model.specs.declared.statuses.TheConstants.{INVALID_PARAMETER, NO_MORE_ITEMS}
use Rattle.reg_model.specs.declared.answer.AnswerBody.{AnswerBody}
use Rattle.reg_model.specs.declared.answer.AnswerBody.TheVariants.{Refused, Short, Member, Info, Security}
use Rattle.reg_model.specs.declared.notice.Notice.{Notice}
use Rattle.reg_model.specs.declared.notice.Reason.{Reason}
use Rattle.reg_model.specs.declared.notice.Reason.TheVariants.{Matched, Gone, Closed}
use Rattle.reg_tree_image.specs.Rooms.{filled}
use Rattle.reg_calls.specs.Rooms.{size_of}
use Rattle.zugmeled.specs.declared.told.ZugInfo.{ZugInfo}

-- a number that is there, or 0
abbrev pub or_zero : Option ℕ → ℕ
or_zero number = unwrap_or number 0

-- bytes over the front of a room, where some are told
abbrev pub filled_if : Option (List ℕ) → List ℕ → List ℕ
filled_if None room = room
filled_if (Some bytes) room = filled bytes room

-- a value at a place: its name over the front of one room, with its size, its type, and its bytes over the front of the other room, where
-- they are told, with their size; of rooms of which one is too short the type and the size of the bytes
abbrev pub TellsMember : AnswerBody → (status name_size kind size : ℕ) → (old_name new_name old new : List ℕ) → Type 0
TellsMember (Member name k n bytes) status name_size kind size old_name new_name old new =
    (status ≡ 0) × (name_size ≡ size_of name) × (kind ≡ k) × (size ≡ n) × (new_name ≡ filled name old_name) × (new ≡ filled_if bytes old)
TellsMember (Short s k n) status name_size kind size old_name new_name old new =
    (status ≡ s) × (name_size ≡ 0) × (kind ≡ k) × (size ≡ n) × (new_name ≡ old_name) × (new ≡ old)
TellsMember (Refused s) status name_size kind size old_name new_name old new =
    (status ≡ s) × (name_size ≡ 0) × (kind ≡ 0) × (size ≡ 0) × (new_name ≡ old_name) × (new ≡ old)
TellsMember other status name_size kind size old_name new_name old new =
    (status ≡ INVALID_PARAMETER) × (name_size ≡ 0) × (kind ≡ 0) × (size ≡ 0) × (new_name ≡ old_name) × (new ≡ old)

-- no numbers of a key
abbrev pub no_info : ZugInfo
no_info = record { subkeys = 0; longest_key = 0; values = 0; longest_value = 0; largest = 0; security = 0; time = 0 }

-- a key's numbers
abbrev pub TellsInfo : AnswerBody → ℕ → ZugInfo → Type 0
TellsInfo (Info subkeys longest_key values longest_value largest security time) status info =
    (status ≡ 0)
    × (info ≡ record {
      subkeys = subkeys;
      longest_key = longest_key;
      values = values;
      longest_value = longest_value;
      largest = largest;
      security = security;
      time = time;
    })
TellsInfo (Refused s) status info = (status ≡ s) × (info ≡ no_info)
TellsInfo other status info = (status ≡ INVALID_PARAMETER) × (info ≡ no_info)

-- a descriptor over the front of the room, with its size; of a room that is too short the size alone
abbrev pub TellsSecurity : AnswerBody → (status size : ℕ) → (old new : List ℕ) → Type 0
TellsSecurity (Security bytes) status size old new = (status ≡ 0) × (size ≡ size_of bytes) × (new ≡ filled bytes old)
TellsSecurity (Short s k n) status size old new = (status ≡ s) × (size ≡ n) × (new ≡ old)
TellsSecurity (Refused s) status size old new = (status ≡ s) × (size ≡ 0) × (new ≡ old)
TellsSecurity other status size old new = (status ≡ INVALID_PARAMETER) × (size ≡ 0) × (new ≡ old)

-- the number of a notice's reason
abbrev pub reason_number : Reason → ℕ
reason_number Matched = 1
reason_number Gone = 2
reason_number Closed = 3

-- a notice: of which watch, by which entry, and why; 259 where there is none
abbrev pub TellsNotice : Option Notice → (status watch entry reason : ℕ) → Type 0
TellsNotice (Some notice) status watch entry reason =
    (status ≡ 0) × (watch ≡ notice.watch) × (entry ≡ notice.by) × (reason ≡ reason_number notice.reason)
TellsNotice None status watch entry reason = (status ≡ NO_MORE_ITEMS) × (watch ≡ 0) × (entry ≡ 0) × (reason ≡ 0)
