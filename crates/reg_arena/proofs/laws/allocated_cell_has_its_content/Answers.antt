use Rattle.reg_arena.proofs.Tiling.CellLayout.{allocated-some}
use Rattle.reg_arena.proofs.laws.allocated_cell_has_its_content.Goals as goal

pub returns : goal.returns
returns c = allocated-some
