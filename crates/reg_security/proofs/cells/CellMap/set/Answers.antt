use Rattle.reg_security.proofs.TableCells.{noted-first, noted-behind, is-behind}
use Rattle.reg_security.proofs.cells.CellMap.set.Goals as goal

pub returns-then-set : goal.returns-then-set
returns-then-set c =
    noted-first c.args.descriptor.now c.args.cell c.self.inside.by_hash c.set.new.self c.self.inside.others.entries c.args.self.now c.self.view_is
    c.if-set.ensures.set

pub set_among-requires : goal.set_among-requires
set_among-requires c =
    is-behind c.self.inside.by_hash c.self.inside.others.entries c.args.self.now c.args.descriptor.now c.self.view_is c.if-set.ensures.set.1 c.requires

pub returns : goal.returns
returns c =
    noted-behind c.args.descriptor.now c.args.cell c.self.inside.by_hash c.set.new.self c.self.inside.others.entries c.set_among.new.others.entries
    c.args.self.now c.self.view_is c.if-set.ensures.set.0 c.if-set.ensures.set.1 c.set_among.ensures.notes
