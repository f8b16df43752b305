use Rattle.std.proofs.Common.{arith}
use Rattle.reg_arena.proofs.FreeList.ListedArenas.{sound}
use Rattle.reg_arena.proofs.Tiling.ArenaInvariant.{opened}
use Rattle.reg_arena.proofs.arena.Arena.bins_size.Goals as goal

pub returns-clause-sound : goal.returns-clause-sound
returns-clause-sound c = rw (← c.self.view_is) (sound _ _ (opened _ _ c.self.invariant.0))

pub overflow_cast-result : goal.overflow_cast-result
overflow_cast-result c = let small = (opened _ _ c.self.invariant.0).arena.small in omega (arith, small, c.len.ensures)
