-- Why and where an import stopped (this project's own).
use Rattle.std.specs.Prelude.{◌≡◌, ◌≢◌, ◌⊎◌, ℕ, true, false, List, [], ◌∷◌, ◌++◌, is_some, Some, None}
use Rattle.std.specs.FinMap.{get}
use Rattle.reg_names.specs.Names.{is_path}
use Rattle.reg_heap.specs.Paths.{Path}
use Rattle.reg_heap.specs.Members.{value_named}
use Rattle.reg_heap.specs.Edits.{folded_path, values_at}
use Rattle.reg_model.specs.declared.statuses.TheConstants.{NOT_ENOUGH_MEMORY}
use Rattle.reg_model.specs.declared.call.Change.{Change}
use Rattle.reg_model.specs.declared.call.Change.TheVariants.{OpenRoot, CreateKey, SetValue, DeleteValue, DeleteTree}
use Rattle.reg_model.specs.Callbacks.{Callbacks}
use Rattle.reg_model.specs.Worlds.{Handle, At, Deleted, look}
use Rattle.reg_model.specs.Replies.{refusal}
use Rattle.reg_calls.specs.Views.{View, IsApplied}
use Rattle.reg_dotreg_reader.specs.declared.entry.Entry.{Entry}
use Rattle.reg_dotreg_reader.specs.declared.entry.Entry.TheVariants.{Key, GoneKey, Value, GoneValue}
use Rattle.reg_dotreg_reader.specs.declared.entry.Numbered.{Numbered}
use Rattle.reg_dotreg_import.specs.Imports.{entries_of}
use Rattle.reg_dotreg_import.specs.ImportCalls.{Accepts, Hands, calls_of_entry, calls_of, hands_behind, opened}
use Rattle.reg_dotreg_import.specs.declared.entries.TheConstants.{ALL_RIGHTS}
use Rattle.reg_dotreg_import.specs.declared.fault.ImportFault.{ImportFault}
use Rattle.reg_dotreg_import.specs.declared.fault.ImportFault.TheVariants.{Refused, Memory}

-- a handle of session 0 with all rights, that leads to the key at a path, or nowhere, where that key was deleted
pub record IsOpenAt (handles : List Handle) (number : ℕ) (path : Path) : Type 0 where
  pub handle : Handle
  pub found : look 0 number handles ≡ Some handle
  pub rights : handle.mask ≡ ALL_RIGHTS
  pub leads : (handle.destination ≡ At path) ⊎ (handle.destination ≡ Deleted)

-- the change that an entry asks for, by a handle to the root, or to the key that values go to; what isn't there isn't asked to go
abbrev pub IsAskedFor : View → (here : Path) → Entry → Change → Type 0
IsAskedFor v here (Key path) change = (root : ℕ) × IsOpenAt v.handles root [] × (change ≡ CreateKey root path ALL_RIGHTS None)
IsAskedFor v here (GoneKey path) change =
    (root : ℕ) × IsOpenAt v.handles root [] × (change ≡ DeleteTree root path)
    × ((path ≡ []) ⊎ (is_path path ≡ false) ⊎ (is_some (get v.keys.tree (folded_path path)) ≡ true))
IsAskedFor v here (Value name kind bytes) change = (key : ℕ) × IsOpenAt v.handles key here × (change ≡ SetValue key name kind bytes)
IsAskedFor v here (GoneValue name) change =
    (key : ℕ) × IsOpenAt v.handles key here × (change ≡ DeleteValue key name)
    × (is_some (value_named name (values_at v.keys.tree here)) ≡ true)

-- a change is refused by the rules with a status that doesn't tell a want of memory, and changes nothing
pub record IsRefused (asked : Callbacks) (v : View) (moment : ℕ) (change : Change) (status : ℕ) : Type 0 where
  pub some : status ≢ 0
  pub other : status ≢ NOT_ENOUGH_MEMORY
  pub refused : IsApplied asked v v 0 moment change (refusal status)

-- an entry was refused, where so much had been made: of its calls those before the one that was refused were accepted, and of that one
-- nothing was done
pub record IsEntryRefused (asked : Callbacks) (moment : ℕ) (h : Hands) (e : Entry) (status : ℕ) (old new : View) : Type 0 where
  pub tree : new.keys.tree ≡ h.stand.tree
  pub change : Change
  pub asks : IsAskedFor new h.stand.here e change
  pub before : List Change
  pub calls : calls_of_entry h e ≡ before ++ change ∷ []
  pub led : Accepts moment old before new
  pub refused : IsRefused asked new moment change status

-- an entry wasn't made for want of memory: some of its calls were accepted, and nothing was done of the others
pub record IsEntryLeft (moment : ℕ) (h : Hands) (e : Entry) (old new : View) : Type 0 where
  pub tree : new.keys.tree ≡ h.stand.tree
  pub before : List Change
  pub others : List Change
  pub calls : calls_of_entry h e ≡ before ++ others
  pub led : Accepts moment old before new

-- an entry that wasn't made, by a fault that tells its line and the status, or that memory was refused
abbrev pub IsStoppedAt : Callbacks → (moment line : ℕ) → Hands → Entry → (old new : View) → ImportFault → Type 0
IsStoppedAt asked moment line h e old new (Refused n status) = (n ≡ line) × IsEntryRefused asked moment h e status old new
IsStoppedAt asked moment line h e old new Memory = IsEntryLeft moment h e old new

-- entries that are made from somewhere on stopped at one of them: the calls of those in front of it were accepted, one after another
pub record StopsAmong (asked : Callbacks) (moment : ℕ) (fault : ImportFault) (h : Hands) (entries : List Numbered) (old new : View) : Type 0 where
  pub front : List Numbered
  pub stopped : Numbered
  pub rest : List Numbered
  pub are : entries ≡ front ++ stopped ∷ rest
  pub between : View
  pub led : Accepts moment old (calls_of moment h (entries_of front)) between
  pub stops : IsStoppedAt asked moment stopped.line (hands_behind moment h (entries_of front)) stopped.entry between new fault

-- no handle to the root could be had, which is told as line 0, or as a want of memory: nothing was done
abbrev pub IsNotOpened : Callbacks → ℕ → ImportFault → (old new : View) → Type 0
IsNotOpened asked moment (Refused line status) old new = (line ≡ 0) × (new ≡ old) × IsRefused asked old moment (OpenRoot ALL_RIGHTS) status
IsNotOpened asked moment Memory old new = new ≡ old

-- what a fault tells of the whole import: the root wasn't opened, or it was and an entry stopped what came behind
abbrev pub ImportStops : Callbacks → ℕ → ImportFault → View → List Numbered → View → Type 0
ImportStops asked moment fault old entries new =
    IsNotOpened asked moment fault old new
    ⊎ ((rooted : View) × Accepts moment old (OpenRoot ALL_RIGHTS ∷ []) rooted × StopsAmong asked moment fault (opened old) entries rooted new)
