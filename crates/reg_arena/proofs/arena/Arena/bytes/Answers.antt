use Rattle.reg_arena.proofs.Tiling.ArenaInvariant.{apart}
use Rattle.reg_arena.proofs.Tiling.BinParts.{piece-part}
use Rattle.reg_arena.proofs.arena.Arena.bytes.Goals as goal

pub slice-requires : goal.slice-requires
slice-requires c = piece-part _ _ _ _ (apart _ _ c.self.invariant.0) (rw (← c.self.view_is) at c.requires)
