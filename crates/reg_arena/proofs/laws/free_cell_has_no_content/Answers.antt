use Rattle.reg_arena.proofs.Tiling.CellLayout.{free-none}
use Rattle.reg_arena.proofs.laws.free_cell_has_no_content.Goals as goal

pub returns : goal.returns
returns c = free-none
