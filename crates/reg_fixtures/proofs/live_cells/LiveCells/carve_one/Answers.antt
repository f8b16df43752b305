use Rattle.reg_fixtures.proofs.LiveCellLemmas.{live-carve, live-longer}
use Rattle.reg_fixtures.proofs.live_cells.LiveCells.carve_one.Goals as goal

pub invariant_of-self : goal.invariant_of-self
invariant_of-self c =
    record { live = live-carve _ _ _ _ _ _ _ c.args.self.now.live c.carve.ensures.ok c.carve.ensures.err }

pub returns : goal.returns
returns c = live-longer _ _ _ _ _ _ c.carve.ensures.ok
