use Rattle.reg_tree_image.proofs.Devices.InputPieces.{exit-with}
use Rattle.reg_tree_image.proofs.Devices.TreesOfBins.{scan-fails, scanned, tree-built, tree-fails}
use Rattle.reg_tree.specs.declared.tree.Tree.{Tree}
use Rattle.reg_tree_image.proofs.loading.build_by.Goals as goal

pub returns-in_err-table-clause-err : goal.returns-in_err-table-clause-err
returns-in_err-table-clause-err c =
    exit-with _ c.from_residual.result _ c.from_residual.ensures.1
    (scan-fails c.args.bins.now c.args.block.minor c.args.block.root _ _ c.in_err-table.ensures)

pub walk-requires : goal.walk-requires
walk-requires c = scanned c.args.bins.now c.args.block.minor c.args.block.root _ c.in_ok-table.ensures

pub returns-clause-ok : goal.returns-clause-ok
returns-clause-ok c =
    tree-built c.args.bins.now c.args.block.minor c.args.block.root _ c.in_ok-table.ensures
    (λ (tree : Tree). tree.tree) c.walk.result c.walk.ensures.ok

pub returns-clause-err : goal.returns-clause-err
returns-clause-err c =
    tree-fails c.args.bins.now c.args.block.minor c.args.block.root _ c.in_ok-table.ensures c.args.building.ahead c.walk.result c.walk.ensures.err
