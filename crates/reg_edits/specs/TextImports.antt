-- What an import of a .reg text makes of a file's hive (this project's own).
use Rattle.std.specs.Prelude.{◌≡◌, ℕ, Bool, List, [], Option, Some, None, Ok, Err}
use Rattle.std.specs.Io.KnownBytes.{IsAtEnd, Consumes}
use Rattle.std.specs.FinMap.{get}
use Rattle.reg_model.specs.Callbacks.{no_callbacks}
use Rattle.reg_tree_text.specs.DumpTexts.{name_of}
use Rattle.reg_calls.specs.Views.{View, IsHive}
use Rattle.reg_dotreg_reader.specs.FileUnits.{units_of, front_units, IsUnread}
use Rattle.reg_dotreg_reader.specs.EntryMeanings.{entries_in}
use Rattle.reg_dotreg_reader.specs.BadLines.{bad_lines_in, told, Tells}
use Rattle.reg_dotreg_reader.specs.declared.entry.Numbered.{Numbered}
use Rattle.reg_dotreg_import.specs.Imports.{imported, entries_of}
use Rattle.reg_dotreg_import.specs.ImportCalls.{Accepts, import_calls}
use Rattle.reg_dotreg_import.specs.ImportStops.{ImportStops}
use Rattle.reg_calls.specs.HiveView.{view_of}
use Rattle.reg_text.specs.Failures.{Stays, Fails}
use Rattle.reg_tree_image.specs.Loads.{MeetsFault, IsBlamed}
use Rattle.reg_edits.specs.Edits.{next_sequence, Opens, IsChanged}
use Rattle.reg_edits.specs.declared.edits.Edited.{Edited}
use Rattle.reg_edits.specs.declared.bad_text.BadText.{BadText}
use Rattle.reg_edits.specs.declared.importing.ImportEnd.{ImportEnd}
use Rattle.reg_edits.specs.declared.importing.ImportEnd.TheVariants.{Load, Input, Text, Lines, Entry, Memory}

-- the entries that the bytes of a text ask for, below a root of that name
pub record IsText (root text : List ℕ) (entries : List Numbered) : Type 0 where
  pub units : List ℕ
  pub units_are : units_of text ≡ Some units
  pub read : entries_in root units ≡ Ok entries

-- lines of a text weren't understood, of keys below a root of that name: all that aren't, or the first alone
pub record IsBadText (root : List ℕ) (tells_all : Bool) (text : List ℕ) (bad : BadText) : Type 0 where
  pub units : List ℕ
  pub units_are : units_of text ≡ Some units
  pub number : ℕ
  pub not_read : entries_in root units ≡ Err number
  pub lines_are : bad.lines.items ≡ told tells_all (bad_lines_in root units)
  pub first_is : Tells (Err number) bad.lines.items
  pub root_is : bad.root.items ≡ root

-- why a text wasn't read: its bytes are in no encoding that is read; or lines of it aren't understood; or memory was refused
abbrev pub TextStops : ImportEnd → (root : List ℕ) → (tells_all : Bool) → (text : List ℕ) → Type 0
TextStops (Text fault) root tells_all text = IsUnread (units_of text) fault
TextStops (Lines bad) root tells_all text = IsBadText root tells_all text bad
TextStops fault root tells_all text = ⊥

-- the name of a hive's root
abbrev pub root_name : View → List ℕ
root_name hive = name_of (get hive.keys.tree [])

-- what stands in a text for a hive's root: the characters of a front that is given, or the root's name
abbrev pub front_of : Option (List ℕ) → View → List ℕ
front_of (Some front) hive = front_units front
front_of None hive = root_name hive

-- the entries of a text were made in a hive, at a moment, by their calls, one after another
pub record Applies (front : Option (List ℕ)) (moment : ℕ) (text : List ℕ) (old last : View) : Type 0 where
  pub entries : List Numbered
  pub is_text : IsText (front_of front old) text entries
  pub tree : last.keys.tree ≡ imported moment old.keys.tree (entries_of entries)
  pub calls : Accepts moment old (import_calls moment old (entries_of entries)) last

-- why they weren't: the text wasn't read; or an entry stopped it, in the hive to which the calls before led
abbrev pub ApplyStops : ImportEnd → (front : Option (List ℕ)) → (tells_all : Bool) → (moment : ℕ) → (text : List ℕ) → View → Type 0
ApplyStops (Entry fault) front tells_all moment text old =
    (entries : List Numbered) × (last : View) × IsText (front_of front old) text entries × IsHive last
    × ImportStops no_callbacks moment fault old entries last
ApplyStops fault front tells_all moment text old = TextStops fault (front_of front old) tells_all text

-- what an import left of the hive of a file: an input was read to its end, and the entries of its text were made, all at one moment
pub record Imports (front : Option (List ℕ)) (moment : ℕ) (edited : Edited) (file file_left unread left : Option (List ℕ)) : Type 0 where
  pub old : View
  pub sequence : ℕ
  pub opens : Opens file file_left old sequence
  pub at_end : IsAtEnd left
  pub text : List ℕ
  pub consumed : Consumes unread left text
  pub applies : Applies front moment text old (view_of edited.seated.hive)
  pub saved_at : edited.moment ≡ moment
  pub next : edited.sequence ≡ next_sequence sequence
  pub changed : IsChanged old (view_of edited.seated.hive) edited.is_changed
  pub none_failed : edited.failed ≡ 0

-- why an input wasn't read to its end, and how far it was: a read failed, or there was no memory for what comes
abbrev pub ReadStops : ImportEnd → (unread left : Option (List ℕ)) → Type 0
ReadStops (Input error) unread left = (read : List ℕ) × Consumes unread left read
ReadStops Memory unread left = (read : List ℕ) × Consumes unread left read
ReadStops fault unread left = ⊥

-- a read of the text failed where the fault is that of its reader, and none else
abbrev pub TextBlames : ImportEnd → (before after : Option ℕ) → Type 0
TextBlames (Input error) before after = Fails before after
TextBlames fault before after = Stays before after

-- what ended an import before there was anything to save: the image doesn't load, and then nothing was read of the text; a read of the text
-- failed, or memory lacked for it, and then it was read so far; or the text wasn't understood, or an entry stopped it
abbrev pub ImportEnds : ImportEnd → (front : Option (List ℕ)) → (tells_all : Bool) → (moment : ℕ) → (file file_left unread left : Option (List ℕ)) → Type 0
ImportEnds (Load fault) front tells_all moment file file_left unread left = MeetsFault fault file file_left × (left ≡ unread)
ImportEnds (Input error) front tells_all moment file file_left unread left =
    (old : View) × (sequence : ℕ) × (read : List ℕ) × Opens file file_left old sequence × Consumes unread left read
ImportEnds Memory front tells_all moment file file_left unread left =
    (old : View) × (sequence : ℕ) × (read : List ℕ) × Opens file file_left old sequence × Consumes unread left read
ImportEnds fault front tells_all moment file file_left unread left =
    (old : View) × (sequence : ℕ) × (text : List ℕ) × Opens file file_left old sequence × IsAtEnd left × Consumes unread left text
    × ApplyStops fault front tells_all moment text old

-- a read of the file failed where the load tells just this, one of the text where the fault is that of its reader, and none else
abbrev pub ImportBlames : ImportEnd → (file file_after text text_after : Option ℕ) → Type 0
ImportBlames (Load fault) file file_after text text_after = IsBlamed fault file file_after × Stays text text_after
ImportBlames (Input error) file file_after text text_after = Stays file file_after × Fails text text_after
ImportBlames fault file file_after text text_after = Stays file file_after × Stays text text_after
