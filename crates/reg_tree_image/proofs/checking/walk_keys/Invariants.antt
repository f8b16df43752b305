use Rattle.std.proofs.Common.{◌+◌, ◌*◌, suc, length, reverse, []}
use Rattle.reg_names.specs.declared.TheConstants.{PATH_LIMIT}
use Rattle.reg_arena.specs.Cells.{cell_at}
use Rattle.reg_tree_image.specs.LoadingWalk.{key_from, root_path}
use Rattle.reg_tree_image.specs.Images.{nothing}
use Rattle.reg_tree_image.specs.Internal.CellStates.{unnamed}
use Rattle.reg_tree_image.specs.Internal.FaultSpots.{root_spot}
use Rattle.reg_tree_image.specs.Internal.CheckedStacks.{IsChecking}
use Rattle.reg_tree_image.proofs.checking.walk_keys.Given as goal

abbrev pub invariant-loop-key : goal.invariant-loop-key
invariant-loop-key l =
    IsChecking (cell_at l.bins) l.minor (key_from (cell_at l.bins) l.minor (suc PATH_LIMIT) [] root_path l.root nothing)
    (root_spot (cell_at l.bins) l.minor l.root) (reverse l.keys.items) l.table.states.items l.noted.items l.spot.path.items

abbrev pub decreases-loop-key : goal.decreases-loop-key
decreases-loop-key l = 2 * unnamed l.table.states.items + length l.keys.items
