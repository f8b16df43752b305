use Rattle.reg_security.proofs.RingNoted.{finds-more}
use Rattle.reg_security.proofs.table.SecurityTable.of_ring.Goals as goal

pub loop-cell-preserved : goal.loop-cell-preserved
loop-cell-preserved c = finds-more _ _ _ _ _ _ c.loop-cell-test.true c.requires c.loop-cell.invariant c.descriptor.ensures c.in_ok-note.ensures
