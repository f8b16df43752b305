-- What is written of the key that a text leads to, and why it wasn't (this project's own).
use Rattle.std.specs.Prelude.{◌≡◌, ◌⊎◌, ℕ, Bool, true, false, List, Option, Some, None}
use Rattle.std.specs.Io.KnownBytes.{Appends}
use Rattle.reg_names.specs.Names.{text_of}
use Rattle.reg_heap.specs.Paths.{Path, Tree}
use Rattle.reg_text.specs.Failures.{Stays}
use Rattle.reg_tree_text.specs.declared.fault.DumpFault.{DumpFault}
use Rattle.reg_tree_text.specs.DumpFronts.{IsStopped, IsBlamed}
use Rattle.reg_tree_text.specs.DumpTexts.{Told}
use Rattle.reg_tree_text.specs.PathQueries.{key_at}
use Rattle.reg_dotreg_writer.specs.Entries.{root_shown, entries_text, file_bytes, can_stand, CanWrite, unwritable}
use Rattle.reg_dotreg_writer.specs.declared.fault.ExportFault.{ExportFault}
use Rattle.reg_dotreg_writer.specs.declared.fault.ExportFault.TheVariants.{Front, NoKey, Name, Stopped}

-- the file of the key that a text leads to: of a key that is there, and whose names can be written. A front that is given stands in it
-- for the root's name
pub record IsExported (tree : Tree) (text : List ℕ) (front : Option (List ℕ)) (is_utf8 : Bool) (before after : Option (List ℕ)) : Type 0 where
  pub stands : can_stand front ≡ true
  pub path : Path
  pub found : key_at tree text ≡ Some path
  pub can_write : CanWrite (root_shown front tree) tree path
  pub written : Appends before after (file_bytes is_utf8 (entries_text (root_shown front tree) tree path))

-- a name can't be written of a key that a text leads to, or of one below it: these lead to the first one with such a name
pub record IsUnwritable (tree : Tree) (text : List ℕ) (front : Option (List ℕ)) (names : List ℕ) : Type 0 where
  pub stands : can_stand front ≡ true
  pub path : Path
  pub found : key_at tree text ≡ Some path
  pub told : Told
  pub first : unwritable (root_shown front tree) tree path ≡ Some told
  pub names_are : names ≡ text_of told.names

-- writing the file stopped: a front of it was written, and nothing where a name can't be written
pub record IsCutOff (fault : DumpFault) (tree : Tree) (text : List ℕ) (front : Option (List ℕ)) (is_utf8 : Bool) (before after : Option (List ℕ))
    : Type 0 where
  pub stands : can_stand front ≡ true
  pub path : Path
  pub found : key_at tree text ≡ Some path
  pub can_write : CanWrite (root_shown front tree) tree path ⊎ (after ≡ before)
  pub written : IsStopped before after (file_bytes is_utf8 (entries_text (root_shown front tree) tree path)) fault

-- why it wasn't: the front can't stand for the root's name; else there is no such key; else a name can't be written; and nothing was
-- written. Or writing stopped
abbrev pub ExportStops : ExportFault → Tree → (text : List ℕ) → (front : Option (List ℕ)) → (is_utf8 : Bool) → (before after : Option (List ℕ)) → Type 0
ExportStops Front tree text front is_utf8 before after = (can_stand front ≡ false) × (after ≡ before)
ExportStops NoKey tree text front is_utf8 before after = (can_stand front ≡ true) × (key_at tree text ≡ None) × (after ≡ before)
ExportStops (Name key) tree text front is_utf8 before after = IsUnwritable tree text front key.items × (after ≡ before)
ExportStops (Stopped fault) tree text front is_utf8 before after = IsCutOff fault tree text front is_utf8 before after

-- whether its writer failed: where a write stopped it, just once, and else never
abbrev pub ExportBlames : ExportFault → Option ℕ → Option ℕ → Type 0
ExportBlames (Stopped fault) before after = IsBlamed fault before after
ExportBlames Front before after = Stays before after
ExportBlames NoKey before after = Stays before after
ExportBlames (Name key) before after = Stays before after
