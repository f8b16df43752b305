use Rattle.std.proofs.Common.{subst}
use Rattle.reg_arena.specs.Cells.{cell_at}
use Rattle.reg_records.specs.KeyNodes.{KeyRecord}
use Rattle.reg_records.proofs.KeyNodeCodec.{nk-open}
use Rattle.reg_written.specs.Internal.KeyCells.{HasValues, HasSubkeys}
use Rattle.reg_written.proofs.KeysWritten.{same-key, written-iff, no-fault}
use Rattle.reg_written.proofs.PartsRead.{has-values, has-subkeys}
use Rattle.reg_written.proofs.keys.is_written_at.Goals as goal

pub is_written-requires-clause-long : goal.is_written-requires-clause-long
is_written-requires-clause-long c = (nk-open c.content-node.result.now _ c.in-Ok.ensures).long

pub is_written-requires-clause-values : goal.is_written-requires-clause-values
is_written-requires-clause-values c =
    let heap = cell_at c.args.bins.now in
    let same = same-key heap c.args.root c.args.offset c.requires c.content-node.result.now _ c.content-node.ensures c.in-Ok.ensures in
    subst (λ (k : KeyRecord). HasValues heap k.fields) same (has-values heap c.args.offset c.requires)

pub is_written-requires-clause-subkeys : goal.is_written-requires-clause-subkeys
is_written-requires-clause-subkeys c =
    let heap = cell_at c.args.bins.now in
    let same = same-key heap c.args.root c.args.offset c.requires c.content-node.result.now _ c.content-node.ensures c.in-Ok.ensures in
    subst (λ (k : KeyRecord). HasSubkeys heap k.fields) same (has-subkeys heap c.args.offset c.requires)

pub returns-in-Ok : goal.returns-in-Ok
returns-in-Ok c =
    written-iff (cell_at c.args.bins.now) c.args.root c.args.offset c.requires c.content-node.result.now _ c.content-node.ensures c.in-Ok.ensures c.is_written.result c.is_written.ensures

pub returns-in-Err : goal.returns-in-Err
returns-in-Err c =
    absurd (no-fault (cell_at c.args.bins.now) c.args.root c.args.offset c.requires c.content-node.result.now _ c.content-node.ensures c.in-Err.ensures)
