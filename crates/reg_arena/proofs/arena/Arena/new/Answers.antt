use Rattle.reg_arena.proofs.Carving.KeptPages.{none_kept}
use Rattle.reg_arena.proofs.Tiling.EmptyArena.{fresh, fresh-split}
use Rattle.reg_arena.proofs.Tiling.ArenaInvariant.{closed}
use Rattle.reg_arena.proofs.arena.Arena.new.Goals as goal

pub invariant_of-result : goal.invariant_of-result
invariant_of-result c = (
  closed _ _ (rw c.new.ensures.items (fresh _ c.new-2.ensures.listed)) (rw (c.new.ensures.items, c.new.ensures.parts) fresh-split),
  rw c.new-3.ensures.items none_kept,
)
