-- The keys that are told of a tree, in the order of a dump: each stands in it, and each of its keys is told.
use Rattle.std.proofs.Common.{◌≡◌, [], Some}
use Rattle.std.specs.List.{AllByRecursion}
use Rattle.std.specs.FinMap.{get}
use Rattle.reg_heap.specs.Paths.{Path, Tree, Rec}
use Rattle.reg_heap.specs.Trees.{IsTree, IsWithinLimits}
use Rattle.reg_tree_text.specs.DumpTexts.{Told, keys_told}
use Rattle.reg_diff.specs.Branches.{names_along, keys_from}
use Rattle.reg_diff.proofs.ToldKeys.{IsToldIn, Finds, all-told, keys-there}

pub told-there : (tree : Tree) → IsTree tree → IsWithinLimits tree → AllByRecursion (IsToldIn tree []) (keys_told tree)
unfolding keys_told keys_from names_along
told-there tree i w = keys-there tree i w [] i.root

-- what holds of each that is told holds of the key at a path
pub told-at : (tree : Tree) → IsTree tree → IsWithinLimits tree → (P : Told → Type 0) (path : Path) (key : Rec) → get tree path ≡ Some key →
    AllByRecursion P (keys_told tree) → Finds P path key
unfolding keys_told keys_from names_along
told-at tree i w P path key e a = all-told tree i P w [] path key e a
