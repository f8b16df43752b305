use Rattle.reg_arena.proofs.Tiling.CellLayout.{holder-is}
use Rattle.reg_arena.proofs.laws.content_is_an_allocated_cells.Goals as goal

pub returns : goal.returns
returns c = holder-is
