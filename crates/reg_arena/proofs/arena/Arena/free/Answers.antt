use Rattle.reg_arena.proofs.Tiling.ArenaInvariant.{apart, opened, closed}
use Rattle.reg_heap.proofs.CellFrame.{gives_up_one}
use Rattle.reg_arena.specs.Cells.{cell_at}
use Rattle.reg_arena.proofs.arena.Arena.free.Goals as goal

pub returns-clause-gone : goal.returns-clause-gone
returns-clause-gone c =
    rw (← c.self.view_is) (gives_up_one (cell_at c.self.inside.bins.items) (cell_at c.free_cell.new.bins.items) c.args.cell (rw (← c.self.view_is) at c.requires) c.free_cell.ensures.contents)

pub free_cell-requires-clause-arena : goal.free_cell-requires-clause-arena
free_cell-requires-clause-arena c = opened _ _ c.self.invariant.0

pub invariant_of-self : goal.invariant_of-self
invariant_of-self c = (closed _ _ c.free_cell.ensures.arena c.free_cell.ensures.split, c.self.invariant.1)

pub free_cell-requires-clause-split : goal.free_cell-requires-clause-split
free_cell-requires-clause-split c = apart _ _ c.self.invariant.0
