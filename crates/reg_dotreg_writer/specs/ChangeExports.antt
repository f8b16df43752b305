-- What is written of the changes from one tree to another, and why they weren't (this project's own).
use Rattle.std.specs.Prelude.{◌≡◌, ◌⊎◌, ◌↔◌, ℕ, Bool, true, List, [], Option, Some}
use Rattle.std.specs.FinMap.{get}
use Rattle.std.specs.Io.KnownBytes.{Appends}
use Rattle.reg_heap.specs.Paths.{Tree}
use Rattle.reg_tree_text.specs.DumpFronts.{IsStopped}
use Rattle.reg_tree_text.specs.DumpTexts.{name_of}
use Rattle.reg_dotreg_writer.specs.Entries.{file_bytes}
use Rattle.reg_dotreg_writer.specs.Changes.{Change, changes, rooted, changes_text, CanWriteChanges, unwritable_change}
use Rattle.reg_dotreg_writer.specs.declared.fault.ExportFault.{ExportFault}
use Rattle.reg_dotreg_writer.specs.declared.fault.ExportFault.TheVariants.{Front, NoKey, Name, Stopped}

-- the file of the changes, whose names can be written, and whether there are none
pub record AreExported (old new : Tree) (is_utf8 is_none : Bool) (before after : Option (List ℕ)) : Type 0 where
  pub can_write : CanWriteChanges old new
  pub written : Appends before after (file_bytes is_utf8 (changes_text old new))
  pub none : (is_none ≡ true) ↔ (changes old new ≡ [])

-- why it wasn't: a name can't be written, of the first key with such a one, and nothing was written. Or a front of the file was, and
-- nothing where a name can't be written. There is always a root, and no front is given
abbrev pub ChangesStop : ExportFault → (old new : Tree) → (is_utf8 : Bool) → (before after : Option (List ℕ)) → Type 0
ChangesStop Front old new is_utf8 before after = ⊥
ChangesStop NoKey old new is_utf8 before after = ⊥
ChangesStop (Name key) old new is_utf8 before after =
    (change : Change) × (unwritable_change old new ≡ Some change) × (key.items ≡ rooted (name_of (get old [])) change.path) × (after ≡ before)
ChangesStop (Stopped fault) old new is_utf8 before after =
    (CanWriteChanges old new ⊎ (after ≡ before)) × IsStopped before after (file_bytes is_utf8 (changes_text old new)) fault
