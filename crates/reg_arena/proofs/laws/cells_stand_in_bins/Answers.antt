use Rattle.reg_arena.proofs.Tiling.CellLayout.{in_bins}
use Rattle.reg_arena.proofs.laws.cells_stand_in_bins.Goals as goal

pub returns : goal.returns
returns c = in_bins
