use Rattle.std.proofs.Common.{arith}
use Rattle.reg_bins.proofs.Bins.{pages-long}
use Rattle.reg_bins.proofs.row.BinRow.len.Goals as goal

pub overflow_mul-result : goal.overflow_mul-result
overflow_mul-result c = omega (arith, pages-long 0 0 0 _ c.self.invariant.0, c.self.inside.pages.ok.0, c.self.invariant.1)

pub returns-clause-long : goal.returns-clause-long
returns-clause-long c = rw (← c.self.view_is) (omega (arith, pages-long 0 0 0 _ c.self.invariant.0, c.self.inside.pages.ok.0))
