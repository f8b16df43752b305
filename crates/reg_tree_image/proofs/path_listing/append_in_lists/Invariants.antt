use Rattle.std.proofs.Common.{ℕ, List}
use Rattle.reg_arena.specs.Cells.{cell_at}
use Rattle.reg_tree_image.specs.KeysAtPaths.{names_in}
use Rattle.reg_tree_image.specs.Internal.CellStates.{unnamed}
use Rattle.reg_tree_image.specs.Internal.ListParts.{entries_in}
use Rattle.reg_tree_image.proofs.Readers.NamesListed.{AreListsLeft}
use Rattle.reg_tree_image.proofs.path_listing.append_in_lists.Given as goal

abbrev pub invariant-loop-offset : goal.invariant-loop-offset
invariant-loop-offset l =
    (path : List ℕ) → AreListsLeft (cell_at l.bins) path (names_in l.initial.names.items) (entries_in l.root_list) l.initial.table.states.items
    (names_in l.names.items) (entries_in l.lists) l.table.states.items

abbrev pub decreases-loop-offset : goal.decreases-loop-offset
decreases-loop-offset l = unnamed l.table.states.items
