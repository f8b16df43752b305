use Rattle.reg_arena.proofs.Tiling.Tilings.{cells_of-AreBins}
use Rattle.reg_arena.proofs.laws.bins_have_their_cells.Goals as goal

pub returns : goal.returns
returns c = cells_of-AreBins
