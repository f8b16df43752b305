use Rattle.std.proofs.Common.{◌≡◌, ◌==◌, false, []}
use Rattle.reg_arena.specs.Cells.{cell_at}
use Rattle.reg_tree_image.specs.WalkSteps.{Seen}
use Rattle.reg_tree_image.specs.Internal.CellStates.{IsTable}
use Rattle.reg_tree_image.specs.Internal.KeysNamed.{key_offsets}
use Rattle.reg_tree_image.proofs.Devices.InputPieces.{exit-with}
use Rattle.reg_tree_image.proofs.Devices.TreesOfBins.{scan-meets, scanned, tested, test-fails}
use Rattle.reg_tree_image.proofs.loading.test_keys.Goals as goal

pub returns-in_err-table-clause-err : goal.returns-in_err-table-clause-err
returns-in_err-table-clause-err c =
    exit-with _ c.from_residual.result _ c.from_residual.ensures.1
    (scan-meets c.args.bins.now c.args.block.minor c.args.block.root _ c.in_err-table.ensures)

pub check_keys-requires-clause-table : goal.check_keys-requires-clause-table
check_keys-requires-clause-table c = scanned c.args.bins.now c.args.block.minor c.args.block.root _ c.in_ok-table.ensures

pub returns-clause-ok : goal.returns-clause-ok
returns-clause-ok c =
    tested c.args.bins.now c.args.block.minor c.args.block.root _ c.in_ok-table.ensures c.check_keys.result
    (λ (seen : Seen). IsTable (cell_at c.args.bins.now) seen.found [] c.check_keys.new.table.states.items)
    (λ (seen : Seen). (c.args.block.minor == 3) ≡ false → c.check_keys.new.noted.items ≡ key_offsets seen.found) c.check_keys.ensures.ok

pub returns-clause-err : goal.returns-clause-err
returns-clause-err c =
    test-fails c.args.bins.now c.args.block.minor c.args.block.root _ c.in_ok-table.ensures c.check_keys.result c.check_keys.ensures.err
