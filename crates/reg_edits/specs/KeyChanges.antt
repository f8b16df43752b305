-- What one change makes of a file's hive (this project's own).
use Rattle.std.specs.Prelude.{◌≡◌, ℕ, ◌==◌, ◌&&◌, ◌||◌, not, nat_lt, nat_le, Bool, if◌then◌else◌, List, [], ◌∷◌, length, is_some}
use Rattle.std.specs.Prelude.{Option, Some, None}
use Rattle.std.specs.List.{list_any}
use Rattle.std.specs.Option.{option_or}
use Rattle.std.specs.FinMap.{get}
use Rattle.reg_text.specs.Failures.{Stays}
use Rattle.reg_names.specs.Names.{is_path, is_value_name}
use Rattle.reg_heap.specs.declared.limits.TheConstants.{DATA_LIMIT}
use Rattle.reg_heap.specs.Paths.{Tree, children_of}
use Rattle.reg_heap.specs.Members.{value_named}
use Rattle.reg_heap.specs.Edits.{folded_path, values_at}
use Rattle.reg_model.specs.Callbacks.{no_callbacks}
use Rattle.reg_tree_image.specs.Loads.{MeetsFault, IsBlamed}
use Rattle.reg_calls.specs.Views.{View, IsHive}
use Rattle.reg_calls.specs.HiveView.{view_of}
use Rattle.reg_words.specs.declared.typed.change.KeyChange.{KeyChange}
use Rattle.reg_words.specs.declared.typed.change.KeyChange.TheVariants as change
use Rattle.reg_dotreg_reader.specs.declared.entry.Entry.{Entry}
use Rattle.reg_dotreg_reader.specs.declared.entry.Entry.TheVariants.{Key, GoneKey, Value, GoneValue}
use Rattle.reg_dotreg_reader.specs.declared.entry.Numbered.{Numbered}
use Rattle.reg_dotreg_import.specs.Imports.{imported, entries_of}
use Rattle.reg_dotreg_import.specs.ImportCalls.{Accepts, import_calls}
use Rattle.reg_dotreg_import.specs.ImportStops.{ImportStops}
use Rattle.reg_dotreg_import.specs.declared.fault.ImportFault.{ImportFault}
use Rattle.reg_edits.specs.Edits.{next_sequence, Opens, IsChanged}
use Rattle.reg_edits.specs.declared.edits.Edited.{Edited}
use Rattle.reg_edits.specs.declared.hindrances.Hindrance.{Hindrance}
use Rattle.reg_edits.specs.declared.hindrances.Hindrance.TheVariants.{NoPath, NoName, TooLong, NoKey, NoParent, NoValue, HasSubkeys, IsRoot}
use Rattle.reg_edits.specs.declared.changing.ChangeEnd.{ChangeEnd}
use Rattle.reg_edits.specs.declared.changing.ChangeEnd.TheVariants.{Load, Hindered, Call, Memory}

-- ---- what hinders a change

-- a key is at the end of a path from the root
abbrev pub has_key : Tree → (path : List ℕ) → Bool
has_key tree path = is_path path && is_some (get tree (folded_path path))

-- it has keys right below it
abbrev pub has_subkeys : Tree → (path : List ℕ) → Bool
has_subkeys tree path = has_key tree path && nat_lt 0 (length (children_of tree (folded_path path)))

-- it has a value of that name
abbrev pub has_value : Tree → (path name : List ℕ) → Bool
has_value tree path name = has_key tree path && is_some (value_named name (values_at tree (folded_path path)))

abbrev pub is_backslash : ℕ → Bool
is_backslash byte = byte == 92

-- the path of the key above: what stands before the last backslash, and nothing where there is none
abbrev pub parent_of : List ℕ → List ℕ
parent_of [] = []
parent_of (b ∷ bs) = if list_any is_backslash bs then b ∷ parent_of bs else []

-- that, unless something holds
abbrev pub unless : Bool → Hindrance → Option Hindrance
unless test why = if test then None else Some why

-- a path is none
abbrev pub hinders_path : (path : List ℕ) → Option Hindrance
hinders_path path = unless (is_path path) NoPath

-- a value's name is none
abbrev pub hinders_name : (name : List ℕ) → Option Hindrance
hinders_name name = unless (is_value_name name) NoName

-- data are more than a value may have
abbrev pub hinders_data : (bytes : List ℕ) → Option Hindrance
hinders_data bytes = unless (nat_le (length bytes) DATA_LIMIT) TooLong

-- what hinders a change whatever the tree has: its path is none, or else its value's name, or else its data are too long
abbrev pub hinders_by_itself : KeyChange → Option Hindrance
hinders_by_itself (change.CreateKey path makes_parents) = hinders_path path.items
hinders_by_itself (change.SetValue path makes_parents name contents) =
    option_or (option_or (hinders_path path.items) (hinders_name name.items)) (hinders_data contents.bytes.items)
hinders_by_itself (change.DeleteValue path name) = option_or (hinders_path path.items) (hinders_name name.items)
hinders_by_itself (change.DeleteKey path is_tree) = hinders_path path.items

-- a key is to be made: the key above it isn't there, and isn't to be made
abbrev pub hinders_key : Tree → (path : List ℕ) → (makes_parents : Bool) → Option Hindrance
hinders_key tree path makes_parents = unless (makes_parents || has_key tree (parent_of path)) NoParent

-- a value is to be set: its key isn't there, and isn't to be made
abbrev pub hinders_value : Tree → (path : List ℕ) → (makes_parents : Bool) → Option Hindrance
hinders_value tree path makes_parents = unless (makes_parents || has_key tree path) NoKey

-- a value is to go: its key isn't there, or has no such value
abbrev pub hinders_going_value : Tree → (path name : List ℕ) → Option Hindrance
hinders_going_value tree path name = if has_key tree path then unless (has_value tree path name) NoValue else Some NoKey

-- a key is to go: it is the root, isn't there, or has keys below it that aren't to go
abbrev pub hinders_going_key : Tree → (path : List ℕ) → (is_tree : Bool) → Option Hindrance
hinders_going_key tree path is_tree =
    if length path == 0 then Some IsRoot
    else if has_key tree path then unless (is_tree || not (has_subkeys tree path)) HasSubkeys
    else Some NoKey

-- what hinders a change by what the tree has
abbrev pub hinders_in : Tree → KeyChange → Option Hindrance
hinders_in tree (change.CreateKey path makes_parents) = hinders_key tree path.items makes_parents
hinders_in tree (change.SetValue path makes_parents name contents) = hinders_value tree path.items makes_parents
hinders_in tree (change.DeleteValue path name) = hinders_going_value tree path.items name.items
hinders_in tree (change.DeleteKey path is_tree) = hinders_going_key tree path.items is_tree

-- what hinders a change of a tree, if anything does: first what does so whatever the tree has
abbrev pub hindrance_of : Tree → KeyChange → Option Hindrance
hindrance_of tree asked = option_or (hinders_by_itself asked) (hinders_in tree asked)

-- ---- what makes it

-- the entries of a .reg text that make a change
abbrev pub entries_for : KeyChange → List Entry
entries_for (change.CreateKey path makes_parents) = Key path.items ∷ []
entries_for (change.SetValue path makes_parents name contents) = Key path.items ∷ Value name.items contents.kind contents.bytes.items ∷ []
entries_for (change.DeleteValue path name) = Key path.items ∷ GoneValue name.items ∷ []
entries_for (change.DeleteKey path is_tree) = GoneKey path.items ∷ []

-- nothing hindered a change of a hive, and it was made at a moment, by the calls of its entries, one after another
pub record Alters (moment : ℕ) (asked : KeyChange) (old last : View) : Type 0 where
  pub free : hindrance_of old.keys.tree asked ≡ None
  pub tree : last.keys.tree ≡ imported moment old.keys.tree (entries_for asked)
  pub calls : Accepts moment old (import_calls moment old (entries_for asked)) last

-- a call of its entries was refused, or memory for it, in the hive to which those before led
pub record IsCallRefused (fault : ImportFault) (moment : ℕ) (asked : KeyChange) (old : View) : Type 0 where
  pub free : hindrance_of old.keys.tree asked ≡ None
  pub entries : List Numbered
  pub are : entries_of entries ≡ entries_for asked
  pub last : View
  pub hive : IsHive last
  pub stops : ImportStops no_callbacks moment fault old entries last

-- why it wasn't: something hindered it; or a call was refused; or memory was, for the entries
abbrev pub AlterStops : ChangeEnd → (moment : ℕ) → KeyChange → View → Type 0
AlterStops (Load fault) moment asked old = ⊥
AlterStops (Hindered why) moment asked old = hindrance_of old.keys.tree asked ≡ Some why
AlterStops (Call fault) moment asked old = IsCallRefused fault moment asked old
AlterStops Memory moment asked old = hindrance_of old.keys.tree asked ≡ None

-- what a change left of the hive of a file
pub record Changes (moment : ℕ) (asked : KeyChange) (edited : Edited) (file file_left : Option (List ℕ)) : Type 0 where
  pub old : View
  pub sequence : ℕ
  pub opens : Opens file file_left old sequence
  pub alters : Alters moment asked old (view_of edited.seated.hive)
  pub saved_at : edited.moment ≡ moment
  pub next : edited.sequence ≡ next_sequence sequence
  pub changed : IsChanged old (view_of edited.seated.hive) edited.is_changed
  pub none_failed : edited.failed ≡ 0

-- what ended a change before there was anything to save: the image doesn't load; or why it wasn't made
abbrev pub ChangeEnds : ChangeEnd → (moment : ℕ) → KeyChange → (file file_left : Option (List ℕ)) → Type 0
ChangeEnds (Load fault) moment asked file file_left = MeetsFault fault file file_left
ChangeEnds fault moment asked file file_left =
    (old : View) × (sequence : ℕ) × Opens file file_left old sequence × AlterStops fault moment asked old

-- a read of the file failed where the load tells just this, and none else
abbrev pub ChangeBlames : ChangeEnd → (before after : Option ℕ) → Type 0
ChangeBlames (Load fault) before after = IsBlamed fault before after
ChangeBlames fault before after = Stays before after
