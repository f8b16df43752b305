-- What accepted calls are told.
use Rattle.std.specs.Prelude.{ℕ, ◌||◌, nat_lt, Bool, false, List, [], ◌∷◌, map, length, get_or, slice_get, if◌then◌else◌, Option, Some, None}
use Rattle.std.specs.FinMap.{get}
use Rattle.reg_heap.specs.Paths.{Path, Tree, Rec, Member, children_of}
use Rattle.reg_names.specs.Names.{path_of}
use Rattle.reg_heap.specs.Members.{value_named}
use Rattle.reg_model.specs.declared.statuses.TheConstants.{FILE_NOT_FOUND, INSUFFICIENT_BUFFER, MORE_DATA, NO_MORE_ITEMS}
use Rattle.reg_model.specs.Worlds.{path_at}
use Rattle.reg_heap.specs.Edits.{values_at, descriptor_of, missing}
use Rattle.reg_model.specs.Causes.{State, Opening, rule_of, subkeys_of, members_of}
use Rattle.reg_model.specs.declared.call.Change.{Change}
use Rattle.reg_model.specs.declared.call.Change.TheVariants.{CreateKey}
use Rattle.reg_model.specs.declared.call.Query.{Query}
use Rattle.reg_model.specs.declared.call.Query.TheVariants.{QueryValue, EnumKey, EnumValue, QueryInfo, GetSecurity}
use Rattle.reg_model.specs.declared.reply.ChangeReply.{ChangeReply}
use Rattle.reg_model.specs.declared.answer.AnswerBody.{AnswerBody}
use Rattle.reg_model.specs.declared.answer.AnswerBody.TheVariants.{Refused, Short, Value, Key, Member as Told, Info, Security}

-- a refusal is its status and nothing else
abbrev pub refusal : ℕ → ChangeReply
refusal status = record { status = status; number = None; handle = None; disposition = None }

-- 1 where a key is made, 2 where all are there
abbrev pub disposition_of : List (List ℕ) → ℕ
disposition_of [] = 2
disposition_of (name ∷ names) = 1

-- what is told of the key that is opened: only CreateKey tells it
abbrev pub disposition_told : State → ℕ → Change → Option ℕ
disposition_told s session (CreateKey h path mask given) =
    Some (disposition_of (missing s.world.tree (path_at session h s.world.handles) (path_of path)))
disposition_told s session change = None

-- a number, where a handle is opened
abbrev pub if_opened : Option Opening → ℕ → Option ℕ
if_opened None number = None
if_opened (Some opening) number = Some number

-- status 0, the entry's number, and the same number for a handle that was opened
unfoldable pub reply_to : State → ℕ → Change → ChangeReply
reply_to s session change = record {
  status = 0;
  number = Some s.next;
  handle = if_opened (rule_of change).opens s.next;
  disposition = disposition_told s session change;
}

-- a value as it is told: its type and size, and its bytes if a room was given; 234 where the room is below the size
abbrev pub value_told : Option Member → Option ℕ → AnswerBody
value_told None room = Refused FILE_NOT_FOUND
value_told (Some v) None = Value v.kind (length v.bytes) None
value_told (Some v) (Some room) = if nat_lt room (length v.bytes) then Short MORE_DATA v.kind (length v.bytes) else Value v.kind (length v.bytes) (Some v.bytes)

abbrev pub name_of : Option Rec → List ℕ
name_of None = []
name_of (Some r) = r.name

abbrev pub time_of : Option Rec → ℕ
time_of None = 0
time_of (Some r) = r.time

-- a subkey as it is told: its name as given and its time; 234 with the name's length where the room is below it
abbrev pub key_told : Option Rec → ℕ → AnswerBody
key_told key room = if nat_lt room (length (name_of key)) then Short MORE_DATA 0 (length (name_of key)) else Key (name_of key) (time_of key)

-- a room is given, and below a size
abbrev pub is_short : Option ℕ → ℕ → Bool
is_short None size = false
is_short (Some room) size = nat_lt room size

-- bytes, if a room is given for them
abbrev pub bytes_for : Option ℕ → List ℕ → Option (List ℕ)
bytes_for None bytes = None
bytes_for (Some room) bytes = Some bytes

-- a value at an index as it is told: name, type, size, and the bytes if a room was given; 234 with type and size where either
-- room is short
abbrev pub member_told : Option Member → ℕ → Option ℕ → AnswerBody
member_told None name_room room = Refused NO_MORE_ITEMS
member_told (Some v) name_room room =
    if nat_lt name_room (length v.name) || is_short room (length v.bytes) then Short MORE_DATA v.kind
    (length v.bytes) else Told v.name v.kind (length v.bytes) (bytes_for room v.bytes)

-- the largest of some numbers; of none it is 0
abbrev pub largest_of : List ℕ → ℕ
largest_of [] = 0
largest_of (n ∷ ns) = if nat_lt (largest_of ns) n then n else largest_of ns

-- a key as it stands in the tree: how many subkeys, the longest of their names, how many values, the longest of their names and the
-- largest of their data, the size of its descriptor, and its time
abbrev pub info_told : Tree → Path → AnswerBody
info_told t p =
    Info (length (children_of t p)) (largest_of (map (λ (q : Path). length (name_of (get t q))) (children_of t p)))
    (length (values_at t p)) (largest_of (map (λ (v : Member). length v.name) (values_at t p)))
    (largest_of (map (λ (v : Member). length v.bytes) (values_at t p))) (length (descriptor_of (get t p))) (time_of (get t p))

-- a descriptor as it is told; 122 with its size where the room is below it
abbrev pub security_told : List ℕ → ℕ → AnswerBody
security_told descriptor room = if nat_lt room (length descriptor) then Short INSUFFICIENT_BUFFER 0 (length descriptor) else Security descriptor

-- the answer to a question that is not refused
unfoldable pub body_of : State → ℕ → Query → AnswerBody
body_of s session query = by query
  where
    by : Query → AnswerBody
    by (QueryValue h name room) = value_told (value_named name (values_at s.world.tree (path_at session h s.world.handles))) room
    by (EnumKey h index room) = key_told (get s.world.tree (get_or (subkeys_of s session h) index [])) room
    by (EnumValue h index name_room room) = member_told (slice_get (members_of s session h) index) name_room room
    by (QueryInfo h) = info_told s.world.tree (path_at session h s.world.handles)
    by (GetSecurity h room) = security_told (descriptor_of (get s.world.tree (path_at session h s.world.handles))) room
