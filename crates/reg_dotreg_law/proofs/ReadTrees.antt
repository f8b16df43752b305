-- The file of a tree's keys from one on, read: its units, and the entries that they stand for.
use Rattle.std.proofs.Common.{◌≡◌, ℕ, Bool, true, List, [], ◌∷◌, Option, Some, IsSome, refl, ◌∙◌}
use Rattle.std.specs.Prelude.{flat_map}
use Rattle.std.specs.FinMap.{get}
use Rattle.std.specs.List.{AllByRecursion}
use Rattle.reg_names.specs.Names.{folded}
use Rattle.reg_heap.specs.Paths.{Path, Tree}
use Rattle.reg_heap.specs.Trees.{IsTree, IsWithinLimits}
use Rattle.reg_tree_text.specs.DumpTexts.{Told}
use Rattle.reg_dotreg_writer.specs.Entries.{can_stand, CanWrite, heading, key_block, root_shown, keys_from, entries_text, file_bytes}
use Rattle.reg_dotreg_writer.proofs.EncodedTexts.{are_ascii}
use Rattle.reg_dotreg_writer.proofs.ToldNames.{value-bytes, keys-ascii, text-well}
use Rattle.reg_dotreg_writer.proofs.ShownRoots.{shown-good}
use Rattle.reg_dotreg_reader.specs.FileUnits.{units_of}
use Rattle.reg_tree.specs.ValueBytes.{IsOfBytes}
use Rattle.reg_dotreg_law.specs.ReadBack.{IsKept, IsReadBack}
use Rattle.reg_dotreg_law.proofs.BlocksBack.{IsKeptBelow, blocks-back}
use Rattle.reg_dotreg_law.proofs.DueOfRoots.{due-below}
use Rattle.reg_dotreg_law.proofs.ToldBack.{tree-kept}
use Rattle.reg_dotreg_law.proofs.FileUnitsBack.{file-back}
use Rattle.reg_dotreg_law.proofs.ShortTexts.{are_short, short-append, blocks-short}

pub tree-back : (name shown : List ℕ) (tree : Tree) (path : Path) → folded name ≡ folded shown → IsTree tree →
    IsWithinLimits tree → IsOfBytes tree → IsSome (get tree path) → CanWrite shown tree path → IsReadBack name shown tree path
unfolding entries_text
tree-back name shown tree path f i w o there can =
    let b = blocks-back name shown (keys_from shown tree path) f (tree-kept shown tree i w o path there can) in
    (b.0, b.1, b.2 ∙ due-below shown tree path)

values-of : (root : List ℕ) (told : List Told) → AllByRecursion (IsKeptBelow root) told →
    AllByRecursion (λ (t : Told). AllByRecursion IsKept t.key.values) told
values-of root [] a = tt
values-of root (t ∷ told) a = (a.0.values, values-of root told a.1)

heading-short : are_short heading ≡ true
unfolding heading
heading-short = refl

pub tree-file : (is_utf8 : Bool) (tree : Tree) (path : Path) (front : Option (List ℕ)) → IsTree tree → IsWithinLimits tree → IsOfBytes tree →
    IsSome (get tree path) → can_stand front ≡ true → CanWrite (root_shown front tree) tree path →
    units_of (file_bytes is_utf8 (entries_text (root_shown front tree) tree path)) ≡ Some (entries_text (root_shown front tree) tree path)
unfolding entries_text
tree-file is_utf8 tree path front i w o there stands can =
    let root : List ℕ = root_shown front tree in
    let ascii : are_ascii root ≡ true = value-bytes root (shown-good front tree i w stands).allowed in
    let all = keys_from root tree path in
    let values = values-of root all (tree-kept root tree i w o path there can) in
    file-back is_utf8 (flat_map key_block all) (text-well tree w root ascii path)
    (short-append heading (flat_map key_block all) heading-short (blocks-short all (keys-ascii tree w root ascii path) values))
