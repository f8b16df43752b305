use Rattle.std.proofs.Common.{◌≡◌, true, length}
use Rattle.reg_names.specs.Names.{is_path, path_of}
use Rattle.reg_arena.specs.Cells.{cell_at}
use Rattle.reg_tree_image.specs.declared.table.CellState.TheVariants.{Named}
use Rattle.reg_tree_image.specs.Internal.CellStates.{state_in}
use Rattle.reg_tree_image.proofs.Readers.PathNames.{IsOnPath}
use Rattle.reg_tree_image.proofs.path_walk.key_of_path.Given as goal

abbrev pub invariant-loop-name : goal.invariant-loop-name
invariant-loop-name l =
    IsOnPath (cell_at l.bins) (path_of l.path) l.root l.key (path_of l.rest) l.table.states.items
    × (is_path l.rest ≡ true)
    × (state_in l.table.states.items l.key.offset ≡ Named)

abbrev pub decreases-loop-name : goal.decreases-loop-name
decreases-loop-name l = length l.rest
