use Rattle.reg_names.specs.Names.{path_of}
use Rattle.reg_tree_image.specs.PathLoads.{value_walk}
use Rattle.reg_tree_image.specs.ValuesAtPaths.{value_there}
use Rattle.reg_tree_image.proofs.Devices.InputPieces.{exit-with}
use Rattle.reg_tree_image.proofs.Devices.TreesOfBins.{scanned}
use Rattle.reg_tree_image.proofs.Devices.PathsRead.{scan-misses, path-fails, path-found, memory-misses}
use Rattle.reg_tree_image.proofs.path_loading.value_in_bins.Goals as goal

pub returns-in_err-table-clause-err : goal.returns-in_err-table-clause-err
returns-in_err-table-clause-err c =
    exit-with _ c.from_residual.result _ c.from_residual.ensures.1
    (scan-misses (value_walk (path_of c.args.path.now) c.args.name.now) c.args.bins.now c.args.block.minor c.args.block.root _ c.in_err-table.ensures)

pub value_on_path-requires-clause-table : goal.value_on_path-requires-clause-table
value_on_path-requires-clause-table c = scanned c.args.bins.now c.args.block.minor c.args.block.root _ c.in_ok-table.ensures

pub returns-in_err-found-clause-err : goal.returns-in_err-found-clause-err
returns-in_err-found-clause-err c =
    exit-with _ c.from_residual-in_err-found.result _ c.from_residual-in_err-found.ensures.1
    (path-fails (value_walk (path_of c.args.path.now) c.args.name.now) c.args.bins.now c.args.block.minor c.args.block.root _ c.in_ok-table.ensures _
    c.in_err-found.ensures.err)

pub returns-clause-ok : goal.returns-clause-ok
returns-clause-ok c =
    let e = c.in_ok-found.ensures.ok in
    path-found (value_walk (path_of c.args.path.now) c.args.name.now) c.args.bins.now c.args.block.minor c.args.block.root _ c.in_ok-table.ensures _ e.0 e.1 value_there
    c.owned.result c.owned.ensures.ok

pub returns-clause-err : goal.returns-clause-err
returns-clause-err c =
    memory-misses (value_walk (path_of c.args.path.now) c.args.name.now) c.args.bins.now c.args.block.minor c.args.block.root c.owned.result c.owned.ensures.err
