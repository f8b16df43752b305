use Rattle.reg_arena.proofs.Tiling.ArenaInvariant.{opened, row_of_bins}
use Rattle.reg_arena.proofs.arena.Arena.cells.Goals as goal

pub list_cells-requires-clause-bins : goal.list_cells-requires-clause-bins
list_cells-requires-clause-bins c = row_of_bins _ (opened _ _ c.self.invariant.0).arena

pub list_cells-requires-clause-small : goal.list_cells-requires-clause-small
list_cells-requires-clause-small c = (opened _ _ c.self.invariant.0).arena.small
