use Rattle.reg_arena.proofs.Tiling.CellLayout.{AreBins-sum}
use Rattle.reg_arena.proofs.laws.bins_are_all_bytes.Goals as goal

pub returns : goal.returns
returns c = AreBins-sum
