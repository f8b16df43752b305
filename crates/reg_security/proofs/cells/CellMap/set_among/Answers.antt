use Rattle.std.proofs.Common.{Some}
use Rattle.reg_security.proofs.TableCells.{updated}
use Rattle.reg_security.proofs.cells.CellMap.set_among.Goals as goal

pub returns-in-Some-clause-notes : goal.returns-in-Some-clause-notes
returns-in-Some-clause-notes c =
    updated c.args.descriptor.now c.args.others.now (c.get_mut.follows.lender c.args.cell) (Some c.args.cell)
    ((c.get_mut.follows.holds c.args.cell).3 c.requires)
