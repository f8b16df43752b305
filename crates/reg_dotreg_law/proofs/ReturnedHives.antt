-- What was exported of a tree in an image, made again in a hive.
use Rattle.std.proofs.Common.{◌≡◌, ℕ, ◌&&◌, Bool, List, [], ◌++◌, is_some, Option, Some, IsSome, sym, ap, ◌∙◌, subst}
use Rattle.std.specs.Prelude.{Ok, Err}
use Rattle.std.specs.FinMap.{get}
use Rattle.std.proofs.lemmas.Bool.{and_parts}
use Rattle.std.proofs.lemmas.List.{append_cancel_left}
use Rattle.std.proofs.lemmas.Option.{same_Some, cond_some}
use Rattle.reg_names.specs.Names.{folded, is_path}
use Rattle.reg_heap.specs.Paths.{Path, Tree}
use Rattle.reg_heap.specs.Edits.{folded_path}
use Rattle.reg_calls.specs.Views.{View}
use Rattle.reg_tree_text.specs.PathQueries.{key_at}
use Rattle.reg_dotreg_writer.specs.Entries.{root_shown, entries_text, file_bytes}
use Rattle.reg_dotreg_reader.specs.declared.entry.Numbered.{Numbered}
use Rattle.reg_dotreg_reader.specs.EntryMeanings.{Reading, entries_in}
use Rattle.reg_dotreg_reader.specs.FileUnits.{units_of}
use Rattle.reg_dotreg_import.specs.Imports.{imported, entries_of}
use Rattle.reg_queries.specs.ImageExports.{Exports}
use Rattle.reg_edits.specs.TextImports.{front_of, Applies, IsText}
use Rattle.reg_dotreg_law.specs.MadeAgain.{IsBare, HasSame, HasSameBelow}
use Rattle.reg_dotreg_law.proofs.AnyBranch.{whole-root}
use Rattle.reg_dotreg_law.specs.MadeOfFiles.{IsBranchOfFile}
use Rattle.reg_dotreg_law.proofs.MadeOfFile.{branch-of_file}

-- what is read is one thing
abbrev read_of : Reading → List Numbered
read_of (Ok entries) = entries
read_of (Err number) = []

-- a key that a text leads to is there, at that path
found : (tree : Tree) (text : List ℕ) (path : Path) → key_at tree text ≡ Some path → IsSome (get tree path) × (folded_path text ≡ path)
found tree text path e =
    let at = cond_some (is_path text && is_some (get tree (folded_path text))) (folded_path text) path e in
    let there : IsSome (get tree (folded_path text)) = (and_parts (is_path text) (is_some (get tree (folded_path text))) at.0).1 in
    (subst (λ (p : Path). IsSome (get tree p)) at.1 there, at.1)

module _ (unread left : Option (List ℕ)) (path file held : List ℕ) (front given : Option (List ℕ)) (is_utf8 : Bool) (moment : ℕ) (old : View)
    (export : Exports unread left path front is_utf8 (Some held) (Some (held ++ file))) (bare : IsBare old.keys.tree)
    (named : folded (front_of given old) ≡ folded (root_shown front export.tree)) where
  abbrev tree : Tree
  tree = export.tree

  abbrev at : Path
  at = export.written.path

  abbrev text : List ℕ
  text = entries_text (root_shown front tree) tree at

  found-at : IsSome (get tree at) × (folded_path path ≡ at)
  found-at = found tree path at export.written.found

  file-is : file ≡ file_bytes is_utf8 text
  file-is = append_cancel_left held file (file_bytes is_utf8 text) export.written.written

  made : IsBranchOfFile is_utf8 tree at front (front_of given old) old.keys.tree moment
  made =
      branch-of_file is_utf8 tree old.keys.tree at front (front_of given old) moment export.is_tree export.limits export.of_bytes found-at.0
      export.written.stands export.written.can_write bare named

  pub is-read : (entries : List Numbered) × IsText (front_of given old) file entries
  is-read = (made.1.1, record { units = made.1.0; units_are = ap units_of file-is ∙ made.1.2; read = made.1.3 })

  module _ (last : View) (applied : Applies given moment file old last) where
    same-units : made.1.0 ≡ applied.is_text.units
    same-units = same_Some _ _ (sym made.1.2 ∙ (ap units_of (sym file-is) ∙ applied.is_text.units_are))

    same-entries : made.1.1 ≡ applied.entries
    same-entries =
        ap read_of (sym made.1.3 ∙ (ap (λ (units : List ℕ). entries_in (front_of given old) units) same-units ∙ applied.is_text.read))

    same-tree : made.0 ≡ last.keys.tree
    same-tree =
        made.1.4 ∙ (ap (λ (entries : List Numbered). imported moment old.keys.tree (entries_of entries)) same-entries ∙ sym applied.tree)

    pub branch-returns : HasSameBelow last.keys.tree tree (folded_path path)
    branch-returns =
        subst (λ (p : Path). HasSameBelow last.keys.tree tree p) (sym found-at.1)
        (subst (λ (t : Tree). HasSameBelow t tree at) same-tree made.2)

pub tree-returns : (unread left : Option (List ℕ)) (file held : List ℕ) (front given : Option (List ℕ)) (is_utf8 : Bool) (moment : ℕ)
    (old last : View) (export : Exports unread left [] front is_utf8 (Some held) (Some (held ++ file))) → Applies given moment file old last →
    IsBare old.keys.tree → folded (front_of given old) ≡ folded (root_shown front export.tree) → HasSame last.keys.tree export.tree
tree-returns unread left file held front given is_utf8 moment old last export applied bare named =
    whole-root last.keys.tree export.tree
    (branch-returns unread left [] file held front given is_utf8 moment old export bare named last applied)
