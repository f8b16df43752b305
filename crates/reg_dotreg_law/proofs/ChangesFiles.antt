-- The file of the changes from one tree to another, read: the units of its text.
use Rattle.std.proofs.Common.{◌≡◌, ℕ, ◌&&◌, not, Bool, true, false, List, [], ◌∷◌, ◌++◌, Some, refl}
use Rattle.std.specs.Prelude.{if◌then◌else◌, flat_map}
use Rattle.std.specs.FinMap.{get}
use Rattle.std.specs.List.{AllByRecursion, list_all}
use Rattle.std.proofs.lemmas.Bool.{and_parts}
use Rattle.reg_heap.specs.Paths.{Tree, Member}
use Rattle.reg_heap.specs.Trees.{IsTree, IsWithinLimits}
use Rattle.reg_tree.specs.ValueBytes.{IsOfBytes}
use Rattle.reg_tree_text.specs.DumpTexts.{name_of}
use Rattle.reg_dotreg_writer.specs.EntryTexts.{line_end, name_told, data_told}
use Rattle.reg_dotreg_writer.specs.Entries.{heading, key_line, file_bytes}
use Rattle.reg_dotreg_writer.specs.Changes.{Change, is_new, changes, rooted, gone_line, value_change, change_line, change_block, changes_text, CanWriteChanges}
use Rattle.reg_dotreg_writer.specs.declared.side.Side.{Side}
use Rattle.reg_dotreg_writer.specs.declared.side.Side.TheVariants.{Old, New}
use Rattle.reg_dotreg_writer.proofs.EncodedTexts.{are_ascii}
use Rattle.reg_dotreg_writer.proofs.WholeEntries.{is_ascii_named}
use Rattle.reg_dotreg_writer.proofs.ToldNames.{found-ascii}
use Rattle.reg_dotreg_writer.proofs.ChangeBytes.{is_ascii_change, changes-ascii, changes-well}
use Rattle.reg_dotreg_reader.specs.FileUnits.{units_of}
use Rattle.reg_dotreg_law.proofs.FileUnitsBack.{file-back}
use Rattle.reg_dotreg_law.proofs.ShortTexts.{are_short, short-append, ascii-short, name-short, data-short, line-short}
use Rattle.reg_dotreg_law.proofs.ChangesBack.{IsKeptOf, IsKeptChange, changes-kept}

value-short : (side : Side) (v : Member) → are_ascii v.name ≡ true → IsKeptOf side v → are_short (value_change side v) ≡ true
value-short Old v e k = short-append (name_told v.name) (61 ∷ 45 ∷ line_end) (name-short v.name e) refl
value-short New v e k =
    short-append (name_told v.name) (61 ∷ (data_told v.kind v.bytes ++ line_end)) (name-short v.name e)
    (short-append (data_told v.kind v.bytes) line_end (data-short v.kind v.bytes k.bytes) refl)

values-short : (side : Side) (values : List Member) → list_all is_ascii_named values ≡ true → AllByRecursion (IsKeptOf side) values →
    are_short (flat_map (value_change side) values) ≡ true
values-short side [] e a = refl
values-short side (v ∷ values) e a =
    let both = and_parts (are_ascii v.name) (list_all is_ascii_named values) e in
    short-append (value_change side v) (flat_map (value_change side) values) (value-short side v both.0 a.0) (values-short side values both.1 a.1)

rooted-short : (root path : List ℕ) → are_short root ≡ true → are_short path ≡ true → are_short (rooted root path) ≡ true
rooted-short root [] r p = r
rooted-short root (b ∷ path) r p = short-append root (92 ∷ b ∷ path) r p

gone-short : (path : List ℕ) → are_short path ≡ true → are_short (gone_line path) ≡ true
unfolding gone_line
gone-short path e = short-append path (93 ∷ line_end) e refl

module _ (root : List ℕ) (r : are_short root ≡ true) where
  block-short : (change : Change) → is_ascii_change change ≡ true → IsKeptChange root change → are_short (change_block root change) ≡ true
  block-short change e k =
      let both = and_parts (are_ascii change.path) (list_all is_ascii_named change.values) e in
      short-append (change_line root change) (flat_map (value_change change.side) change.values ++ line_end)
      (by (change.is_alone && not (is_new change.side)) (rooted-short root change.path r (ascii-short change.path both.0)))
      (short-append (flat_map (value_change change.side) change.values) line_end (values-short change.side change.values both.1 k.values) refl)
    where
      by : (b : Bool) → are_short (rooted root change.path) ≡ true →
          are_short (if b then gone_line (rooted root change.path) else key_line (rooted root change.path)) ≡ true
      by true s = gone-short (rooted root change.path) s
      by false s = line-short (rooted root change.path) s

  blocks-short : (all : List Change) → list_all is_ascii_change all ≡ true → AllByRecursion (IsKeptChange root) all →
      are_short (flat_map (change_block root) all) ≡ true
  blocks-short [] e a = refl
  blocks-short (c ∷ all) e a =
      let both = and_parts (is_ascii_change c) (list_all is_ascii_change all) e in
      short-append (change_block root c) (flat_map (change_block root) all) (block-short c both.0 a.0) (blocks-short all both.1 a.1)

heading-short : are_short heading ≡ true
unfolding heading
heading-short = refl

pub changes-file : (is_utf8 : Bool) (old new : Tree) → IsTree old → IsWithinLimits old → IsTree new → IsWithinLimits new → IsOfBytes new →
    CanWriteChanges old new → units_of (file_bytes is_utf8 (changes_text old new)) ≡ Some (changes_text old new)
unfolding changes_text
changes-file is_utf8 old new i w j v o can =
    let root : List ℕ = name_of (get old []) in
    file-back is_utf8 (flat_map (change_block root) (changes old new)) (changes-well old new w v)
    (short-append heading (flat_map (change_block root) (changes old new)) heading-short
    (blocks-short root (ascii-short root (found-ascii old w [])) (changes old new) (changes-ascii old new w v) (changes-kept old new i w j v o can)))
