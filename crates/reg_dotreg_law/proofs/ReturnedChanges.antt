-- What was written of the changes from one image to another, read below the root of a hive, and applied to one with the old image's tree.
use Rattle.std.proofs.Common.{◌≡◌, ℕ, Bool, List, [], ◌++◌, Option, Some, sym, ap, ◌∙◌, subst}
use Rattle.std.specs.Prelude.{None, Ok, Err}
use Rattle.std.specs.FinMap.{get}
use Rattle.std.proofs.lemmas.List.{append_cancel_left}
use Rattle.std.proofs.lemmas.Option.{same_Some}
use Rattle.reg_names.specs.Names.{folded}
use Rattle.reg_heap.specs.Paths.{Tree}
use Rattle.reg_calls.specs.Views.{View}
use Rattle.reg_tree_text.specs.DumpTexts.{name_of}
use Rattle.reg_dotreg_writer.specs.Entries.{file_bytes}
use Rattle.reg_dotreg_writer.specs.Changes.{changes_text}
use Rattle.reg_dotreg_reader.specs.declared.entry.Entry.{Entry}
use Rattle.reg_dotreg_reader.specs.declared.entry.Numbered.{Numbered}
use Rattle.reg_dotreg_reader.specs.EntryMeanings.{Reading, entries_in}
use Rattle.reg_dotreg_reader.specs.FileUnits.{units_of}
use Rattle.reg_dotreg_import.specs.Imports.{imported, entries_of}
use Rattle.reg_queries.specs.ImageChanges.{ExportsChanges}
use Rattle.reg_edits.specs.TextImports.{root_name, Applies, IsText}
use Rattle.reg_dotreg_law.specs.ChangesDue.{changes_due, AreReadBack}
use Rattle.reg_dotreg_law.specs.MadeAgain.{HasAlike}
use Rattle.reg_dotreg_law.proofs.ChangesBack.{text-back}
use Rattle.reg_dotreg_law.proofs.ChangesFiles.{changes-file}
use Rattle.reg_dotreg_law.proofs.ChangesMade.{changes-made}

-- what is read is one thing
abbrev read_of : Reading → List Numbered
read_of (Ok entries) = entries
read_of (Err number) = []

module _ (unread_old left_old unread_new left_new : Option (List ℕ)) (file held : List ℕ) (is_utf8 is_none : Bool) (hive : View)
    (export : ExportsChanges unread_old left_old unread_new left_new is_utf8 is_none (Some held) (Some (held ++ file)))
    (named : folded (root_name hive) ≡ folded (name_of (get export.old []))) where
  abbrev old : Tree
  old = export.old

  abbrev new : Tree
  new = export.new.tree

  back : AreReadBack (root_name hive) old new
  back =
      text-back old new export.is_tree export.limits export.new.is_tree export.new.limits export.new.of_bytes export.new.written.can_write
      (root_name hive) named

  units-are : units_of file ≡ Some (changes_text old new)
  units-are =
      ap units_of (append_cancel_left held file (file_bytes is_utf8 (changes_text old new)) export.new.written.written)
      ∙ changes-file is_utf8 old new export.is_tree export.limits export.new.is_tree export.new.limits export.new.of_bytes
      export.new.written.can_write

  -- it's understood for a hive whose root has the old one's name
  pub changes-read : (entries : List Numbered) × IsText (root_name hive) file entries × (entries_of entries ≡ changes_due old new)
  changes-read = (back.0, record { units = changes_text old new; units_are = units-are; read = back.1 }, back.2)

  module _ (moment : ℕ) (last : View) (applied : Applies None moment file hive last) where
    same-units : changes_text old new ≡ applied.is_text.units
    same-units = same_Some _ _ (sym units-are ∙ applied.is_text.units_are)

    same-entries : back.0 ≡ applied.entries
    same-entries = ap read_of (sym back.1 ∙ (ap (λ (units : List ℕ). entries_in (root_name hive) units) same-units ∙ applied.is_text.read))

    applied-due : entries_of applied.entries ≡ changes_due old new
    applied-due = ap (λ (entries : List Numbered). entries_of entries) (sym same-entries) ∙ back.2

    pub changes-return : hive.keys.tree ≡ old → HasAlike last.keys.tree new
    changes-return same =
        subst (λ (t : Tree). HasAlike t new)
        (sym (applied.tree
        ∙ (ap (λ (t : Tree). imported moment t (entries_of applied.entries)) same
        ∙ ap (λ (es : List Entry). imported moment old es) applied-due)))
        (changes-made moment old new export.is_tree export.limits export.new.is_tree export.new.limits)

pub same-named : (hive : View) (tree : Tree) → hive.keys.tree ≡ tree → folded (root_name hive) ≡ folded (name_of (get tree []))
same-named hive tree same = ap (λ (t : Tree). folded (name_of (get t []))) same
