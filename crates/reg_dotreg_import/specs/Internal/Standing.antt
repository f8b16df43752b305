-- Where an import stands: its handles, and the tree that was made so far.
use Rattle.std.specs.Prelude.{◌≡◌, ◌<◌, ◌⊎◌, ℕ, true, List, [], ◌∷◌, ◌++◌, Option, None}
use Rattle.std.specs.List.{AllByRecursion}
use Rattle.reg_names.specs.Names.{is_path}
use Rattle.reg_heap.specs.Paths.{Tree}
use Rattle.reg_heap.specs.Edits.{folded_path}
use Rattle.reg_model.specs.declared.call.Change.{Change}
use Rattle.reg_model.specs.declared.reply.ChangeReply.{ChangeReply}
use Rattle.reg_model.specs.declared.statuses.TheConstants.{NOT_ENOUGH_MEMORY}
use Rattle.reg_model.specs.Worlds.{Handle}
use Rattle.reg_model.specs.Callbacks.{Callbacks}
use Rattle.reg_model.specs.Causes.{change_cause}
use Rattle.reg_model.specs.Replies.{refusal}
use Rattle.reg_calls.specs.Views.{View, IsHive, IsAccepted, IsApplied, next_of, state}
use Rattle.reg_dotreg_reader.specs.declared.entry.Entry.{Entry}
use Rattle.reg_dotreg_import.specs.Imports.{Stand, numbers_of}
use Rattle.reg_dotreg_import.specs.ImportCalls.{Accepts, Hands, calls_of_entry, calls_of, hands_after, hands_behind}
use Rattle.reg_dotreg_import.specs.ImportStops.{IsOpenAt, IsRefused}
use Rattle.reg_dotreg_import.specs.declared.entries.Handles.{Handles}
use Rattle.reg_dotreg_import.specs.declared.fault.ImportFault.{ImportFault}
use Rattle.reg_dotreg_import.specs.declared.fault.ImportFault.TheVariants.{Refused, Memory}

-- a change of session 0 was accepted, and opened this handle
pub record IsMade (old new : View) (moment : ℕ) (change : Change) (handle : Option ℕ) : Type 0 where
  pub reply : ChangeReply
  pub accepted : IsAccepted old new 0 moment change reply
  pub status : ℕ
  pub none : change_cause (state old) 0 change status ≡ None
  pub opened : handle ≡ reply.handle

-- the fault that tells a refusal of a change of session 0
abbrev pub IsFaultOf : Callbacks → View → ℕ → ℕ → Change → ImportFault → Type 0
IsFaultOf asked v moment line change (Refused n status) = (n ≡ line) × IsRefused asked v moment change status
IsFaultOf asked v moment line change Memory = IsApplied asked v v 0 moment change (refusal NOT_ENOUGH_MEMORY)

-- beside handles that were open before, one to the root is, and then one to a key, if that has another number
pub record AreOpen (before : List ℕ) (root key : ℕ) (handles : List Handle) : Type 0 where
  pub below : AllByRecursion (λ (n : ℕ). n < root) before
  pub own : ((key ≡ root) × (numbers_of handles ≡ before ++ root ∷ [])) ⊎ ((root < key) × (numbers_of handles ≡ before ++ root ∷ key ∷ []))

-- a handle to the root is open, and the tree is this one
pub record IsRooted (before : List ℕ) (root key : ℕ) (v : View) (tree : Tree) : Type 0 where
  pub hive : IsHive v
  pub tree_is : v.keys.tree ≡ tree
  pub root_open : IsOpenAt v.handles root []
  pub own : AreOpen before root key v.handles

-- and so is one to the key that values go to
pub record IsImporting (before : List ℕ) (handles : Handles) (v : View) (s : Stand) : Type 0 where
  pub rooted : IsRooted before handles.root handles.key v s.tree
  pub key_open : IsOpenAt v.handles handles.key s.here
  pub path : is_path handles.path ≡ true
  pub here : folded_path handles.path ≡ s.here

-- where an import stands, by its handles
abbrev pub hands_of : Handles → View → Stand → Hands
hands_of handles v s = record { stand = s; root = handles.root; key = handles.key; next = next_of v }

-- an entry was made by its calls, and left an import standing there
pub record IsEntryMade (moment : ℕ) (h : Hands) (e : Entry) (old new : View) (last : Hands) : Type 0 where
  pub led : Accepts moment old (calls_of_entry h e) new
  pub last_is : last ≡ hands_after moment h e

-- entries were made, one after another, by their calls, and left an import standing there
pub record AreEntriesMade (moment : ℕ) (h : Hands) (entries : List Entry) (old new : View) (last : Hands) : Type 0 where
  pub led : Accepts moment old (calls_of moment h entries) new
  pub last_is : last ≡ hands_behind moment h entries
