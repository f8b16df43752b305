-- An arena without bins.
use Rattle.std.proofs.Common.{[], refl, arith}
use Rattle.reg_arena.specs.declared.free_lists.FreeLists.{FreeLists}
use Rattle.reg_arena.specs.Internal.BinParts.{IsSplit}
use Rattle.reg_arena.specs.Internal.ListedCells.{IsListed, IsIndexed}

pub fresh : (lists : FreeLists) → IsListed [] (λ x. 0) lists → IsIndexed [] lists
fresh lists listed = record { arena = record { layout = []; tiled = refl; blank = tt; apart = tt; small = omega arith }; listed = listed }

pub fresh-split : IsSplit [] []
unfolding IsSplit
fresh-split = ([], refl, refl)
