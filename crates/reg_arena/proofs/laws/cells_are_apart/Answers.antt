use Rattle.reg_arena.proofs.Tiling.CellLayout.{cells_apart}
use Rattle.reg_arena.proofs.laws.cells_are_apart.Goals as goal

pub returns : goal.returns
returns c = cells_apart
