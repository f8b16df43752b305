use Rattle.reg_tree_image.proofs.NamedCells.CellNaming.{cell-done}
use Rattle.reg_tree_image.proofs.cells.cell.Goals as goal

pub returns-clause-follows : goal.returns-clause-follows
returns-clause-follows c path kind kinds seen t =
    cell-done kind c.args.offset c.args.security kinds seen _ path _ t _ c.content.result.now (λ h e. c.content.ensures h e) c.in_ok-name.ensures.ok.0 c.in_ok-name.ensures.ok.1
