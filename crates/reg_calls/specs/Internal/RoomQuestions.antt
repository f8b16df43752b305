-- Questions whose answers go to the caller's room.
use Rattle.std.specs.Prelude.{◌≡◌, ◌⊎◌, ◌≤◌, ◌<◌, ℕ, List, [], length, get_or, Option}
use Rattle.std.specs.FinMap.{get}
use Rattle.reg_heap.specs.Paths.{Path, Tree, children_of}
use Rattle.reg_heap.specs.Edits.{values_at}
use Rattle.reg_heap.specs.Members.{value_named}
use Rattle.reg_model.specs.Replies.{value_told, key_told}
use Rattle.reg_model.specs.declared.statuses.TheConstants.{NO_MORE_ITEMS}
use Rattle.reg_model.specs.declared.answer.AnswerBody.{AnswerBody}
use Rattle.reg_model.specs.declared.answer.AnswerBody.TheVariants.{Refused}
use Rattle.reg_model.specs.declared.call.Query.{Query}
use Rattle.reg_model.specs.declared.call.Query.TheVariants.{QueryValue, EnumKey}
use Rattle.reg_calls.specs.Internal.Stores.{at}
use Rattle.reg_calls.specs.Rooms.{size_of, asked_of, due_by}
use Rattle.reg_calls.specs.declared.store.Store.{Store}
use Rattle.reg_calls.specs.declared.store.JournalEnd.{JournalEnd}

-- the question is one for a value, and asks for what the room asks for
abbrev pub AsksValue : Query → List ℕ → Type 0
AsksValue (QueryValue handle name asked) room = asked ≡ asked_of room
AsksValue other room = ⊥

-- the question is one for a subkey, whose name may be as long as the room
abbrev pub AsksKey : Query → List ℕ → Type 0
AsksKey (EnumKey handle index asked) room = asked ≡ size_of room
AsksKey other room = ⊥

-- a session's question for the value of a name isn't refused, where the callbacks' status is this: what is told of the value at a path is due
abbrev pub AnswersValueAt : ℕ → Store → ℕ → ℕ → List ℕ → Path → Type 0
AnswersValueAt status store session handle name p =
    (end : JournalEnd) → (room : Option ℕ) →
    due_by status (at end store) session (QueryValue handle name room) ≡ value_told (value_named name (values_at store.tree.tree p)) room

-- the subkey at an index is told, or that there is none
abbrev pub IsSubkeyTold : Tree → Path → ℕ → ℕ → AnswerBody → Type 0
IsSubkeyTold tree p index room body =
    ((length (children_of tree p) ≤ index) × (body ≡ Refused NO_MORE_ITEMS))
    ⊎ ((index < length (children_of tree p)) × (body ≡ key_told (get tree (get_or (children_of tree p) index [])) room))

-- a session's question for a subkey isn't refused, where the callbacks' status is this: what is told of the subkeys of the key at a path is due
abbrev pub AnswersSubkeyAt : ℕ → Store → ℕ → ℕ → Path → Type 0
AnswersSubkeyAt status store session handle p =
    (end : JournalEnd) → (index room : ℕ) → (body : AnswerBody) → IsSubkeyTold store.tree.tree p index room body →
    due_by status (at end store) session (EnumKey handle index room) ≡ body
