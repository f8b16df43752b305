use Rattle.reg_security.proofs.TableCells.{ready-in, expects-ready, if-ok}
use Rattle.reg_security.proofs.table.SecurityTable.expect.Goals as goal

pub returns-clause-ready : goal.returns-clause-ready
returns-clause-ready c = if-ok c.expect.result (λ made r. ready-in c.self.inside.cells c.args.self.now _ c.args.descriptor.now made c.self.view_is r) c.expect.ensures.ok

pub returns-clause-expects : goal.returns-clause-expects
returns-clause-expects c = if-ok c.expect.result (λ made r. expects-ready c.args.self.now _ c.args.descriptor.now made r) (returns-clause-ready c)
