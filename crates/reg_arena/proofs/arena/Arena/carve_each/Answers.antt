use Rattle.reg_arena.proofs.arena.Arena.carve_each.Goals as goal
use Rattle.reg_arena.proofs.Tiling.ArenaInvariant.{apart, opened, closed}

pub carve_cells-requires-clause-arena : goal.carve_cells-requires-clause-arena
carve_cells-requires-clause-arena c = opened _ _ c.self.invariant.0

pub invariant_of-self : goal.invariant_of-self
invariant_of-self c = (closed _ _ c.carve_cells.ensures.arena c.carve_cells.ensures.split, c.carve_cells.ensures.pages c.self.invariant.1)

pub carve_cells-requires-clause-split : goal.carve_cells-requires-clause-split
carve_cells-requires-clause-split c = apart _ _ c.self.invariant.0
