use Rattle.std.proofs.Common.{ℕ, ◌≤◌, List}
use Rattle.reg_arena.specs.Cells.{cell_at}
use Rattle.reg_tree_image.specs.Internal.CellStates.{unnamed}
use Rattle.reg_tree_image.specs.Internal.ListParts.{entries_in}
use Rattle.reg_tree_image.proofs.Readers.PathSteps.{IsLeft}
use Rattle.reg_tree_image.proofs.path_walk.key_among.Given as goal

abbrev pub invariant-loop-offset : goal.invariant-loop-offset
invariant-loop-offset l =
    ((path : List ℕ) → IsLeft (cell_at l.bins) path l.name (entries_in l.list) l.initial.table.states.items (entries_in l.rest) l.table.states.items)
    × (unnamed l.table.states.items ≤ unnamed l.initial.table.states.items)

abbrev pub decreases-loop-offset : goal.decreases-loop-offset
decreases-loop-offset l = unnamed l.table.states.items
