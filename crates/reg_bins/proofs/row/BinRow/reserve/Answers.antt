use Rattle.std.proofs.Common.{arith}
use Rattle.reg_bins.proofs.Bins.{pages-long}
use Rattle.reg_bins.proofs.row.BinRow.reserve.Goals as goal

pub returns-clause-ok : goal.returns-clause-ok
returns-clause-ok c =
    rw (← c.self.view_is)
    (omega (arith, pages-long 0 0 0 _ c.self.invariant.0, c.self.inside.pages.ok.0, c.in_ok-reserve.ensures.len, c.in_ok-reserve.ensures.ok))
