use Rattle.reg_arena.proofs.Tiling.BinPieces.{page-in_bin}
use Rattle.reg_arena.proofs.laws.page_is_in_one_bin.Goals as goal

pub returns : goal.returns
returns c = page-in_bin
