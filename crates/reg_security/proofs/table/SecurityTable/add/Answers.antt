use Rattle.std.proofs.Common.{Some}
use Rattle.reg_security.proofs.TableCells.{noted-in, finds-added}
use Rattle.reg_security.proofs.table.SecurityTable.add.Goals as goal

pub put-requires-clause-ring : goal.put-requires-clause-ring
put-requires-clause-ring c = let r = c.requires.ring in (r.0, r.1, r.2, r.3, r.4.free)

pub returns-clause-noted : goal.returns-clause-noted
returns-clause-noted c = noted-in c.self.inside.cells c.args.self.now _ c.args.descriptor.now (Some c.args.cell) c.self.view_is c.set.ensures

pub returns-clause-added : goal.returns-clause-added
returns-clause-added c = λ ring is near apart x.
    let a = c.put.ensures.added ring is near apart x.free in
    (a, finds-added c.args.self.now _ _ _ ring c.args.cell c.args.descriptor.now x a (returns-clause-noted c))
