use Rattle.reg_arena.proofs.Tiling.CellLayout.{AreBins-full}
use Rattle.reg_arena.proofs.laws.bin_is_its_header_and_cells.Goals as goal

pub returns : goal.returns
returns c = AreBins-full
