-- The file of the changes from one tree to another, read and applied to the old one.
use Rattle.std.proofs.Common.{ℕ, Bool, List, [], refl, sym, subst}
use Rattle.std.specs.FinMap.{get}
use Rattle.reg_heap.specs.Paths.{Tree}
use Rattle.reg_heap.specs.Trees.{IsTree, IsWithinLimits}
use Rattle.reg_tree.specs.ValueBytes.{IsOfBytes}
use Rattle.reg_tree_text.specs.DumpTexts.{name_of}
use Rattle.reg_dotreg_writer.specs.Changes.{changes_text, CanWriteChanges}
use Rattle.reg_dotreg_reader.specs.declared.entry.Entry.{Entry}
use Rattle.reg_dotreg_import.specs.Imports.{imported, entries_of}
use Rattle.reg_dotreg_law.specs.ChangesDue.{AreReadBack}
use Rattle.reg_dotreg_law.specs.MadeAgain.{HasAlike}
use Rattle.reg_dotreg_law.specs.MadeOfFiles.{IsChangedByFile}
use Rattle.reg_dotreg_law.proofs.ChangesBack.{text-back}
use Rattle.reg_dotreg_law.proofs.ChangesFiles.{changes-file}
use Rattle.reg_dotreg_law.proofs.ChangesMade.{changes-made}

pub changed-by_file : (is_utf8 : Bool) (old new : Tree) (moment : ℕ) → IsTree old → IsWithinLimits old → IsTree new → IsWithinLimits new →
    IsOfBytes new → CanWriteChanges old new → IsChangedByFile is_utf8 old new moment
changed-by_file is_utf8 old new moment i w j v o can =
    let r : AreReadBack (name_of (get old [])) old new = text-back old new i w j v o can (name_of (get old [])) refl in (
      imported moment old (entries_of r.0),
      (changes_text old new, r.0, changes-file is_utf8 old new i w j v o can, r.1, refl),
      subst (λ (es : List Entry). HasAlike (imported moment old es) new) (sym r.2) (changes-made moment old new i w j v),
    )
