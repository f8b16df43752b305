use Rattle.std.proofs.Common.{None}
use Rattle.reg_security.proofs.TableCells.{noted-in, finds-forgotten}
use Rattle.reg_security.proofs.table.SecurityTable.forget.Goals as goal

pub returns-clause-noted : goal.returns-clause-noted
returns-clause-noted c = noted-in c.self.inside.cells c.args.self.now _ c.args.descriptor.now None c.self.view_is c.remove.ensures

pub returns-clause-finds : goal.returns-clause-finds
returns-clause-finds c = finds-forgotten c.args.self.now _ c.args.descriptor.now (returns-clause-noted c)
