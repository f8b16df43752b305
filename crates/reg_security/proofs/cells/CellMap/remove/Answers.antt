use Rattle.std.proofs.Common.{None, refl}
use Rattle.reg_security.proofs.TableCells.{noted, updated}
use Rattle.reg_security.proofs.cells.CellMap.remove.Goals as goal

pub returns : goal.returns
returns c =
    noted c.args.descriptor.now None None None c.self.inside.by_hash c.remove.new.self c.self.inside.others.entries c.remove-2.new.self.entries c.args.self.now
    c.self.view_is c.remove.ensures (updated c.args.descriptor.now c.self.inside.others c.remove-2.new.self None c.remove-2.ensures.updates) refl
