use Rattle.reg_shape.proofs.Wholeness.AllocatedCells.{whole-in, spelt-in}
use Rattle.reg_shape.proofs.laws.whole_shape_is_whole.Goals as goal

pub returns : goal.returns
returns c = record { whole = whole-in; spelt = spelt-in }
