use Rattle.reg_shape.proofs.Frame.WrittenFrame.{seen-kept}
use Rattle.reg_shape.proofs.laws.key_stays_where_its_cells_stay.Goals as goal

pub returns : goal.returns
returns c = seen-kept
