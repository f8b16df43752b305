use Rattle.reg_fixtures.proofs.LiveCellLemmas.{chosen-stands, chosen-freed, one-freed}
use Rattle.reg_fixtures.proofs.live_cells.LiveCells.free_last.Goals as goal

pub free-requires : goal.free-requires
free-requires c = chosen-stands _ _ _ c.args.self.now.live _ _ c.in-Some.ensures.items

pub invariant_of-self-2 : goal.invariant_of-self-2
invariant_of-self-2 c =
    record { live = chosen-freed _ _ _ c.args.self.now.live _ _ _ c.in-Some.ensures.items c.free.ensures.gone }

pub returns-clause-freed : goal.returns-clause-freed
returns-clause-freed c = one-freed _ _ _ _ _ c.in-Some.ensures.items c.free.ensures.gone
