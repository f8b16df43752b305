use Rattle.reg_arena.proofs.Tiling.CellLayout.{has_cells}
use Rattle.reg_arena.proofs.laws.content_needs_cells.Goals as goal

pub returns : goal.returns
returns c = has_cells
