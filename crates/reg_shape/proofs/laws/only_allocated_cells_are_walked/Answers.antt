use Rattle.reg_shape.proofs.Wholeness.AllocatedCells.{walked-allocated}
use Rattle.reg_shape.proofs.laws.only_allocated_cells_are_walked.Goals as goal

pub returns : goal.returns
returns c = walked-allocated
