use Rattle.std.proofs.Common.{sym, subst, arith, length, ◌+◌}
use Rattle.reg_arena.specs.Arena.{heap_of}
use Rattle.reg_records.specs.RecordCells.{HasRoom}
use Rattle.reg_index.specs.Subkeys.{IsReady}
use Rattle.reg_tree.specs.CellSizes.{first_cells, planned}
use Rattle.reg_tree.specs.Internal.SpareCells.{AreReady}
use Rattle.reg_tree.proofs.InsertKey.SpareCellTaken.{one-own, key-room, planned_takes, respelt, may_grow}
use Rattle.reg_tree.proofs.make.make_in.Goals as goal

pub bounds-spare-own : goal.bounds-spare-own
bounds-spare-own c =
    let r = c.requires.ready.2 in
    let o = one-own _ _ _ _ _ r in
    (planned_takes _ _ _ c.requires.plan r.cells o.key r.left c.args.spare.now r.ready o.spare_is _ _ _ c.count_if-second.ensures c.count_if.ensures c.count_if-2.ensures
    _ _ _ c.cell_if.ensures c.cell_if-2.ensures c.cell_if-3.ensures).long

pub make-requires-clause-grow : goal.make-requires-clause-grow
make-requires-clause-grow c =
    let r = c.requires.ready.2 in
    let o = one-own _ _ _ _ _ r in
    let t = planned_takes _ _ _ c.requires.plan r.cells o.key r.left c.args.spare.now r.ready o.spare_is _ _ _ c.count_if-second.ensures c.count_if.ensures c.count_if-2.ensures
    _ _ _ c.cell_if.ensures c.cell_if-2.ensures c.cell_if-3.ensures in
    (_, may_grow _ _ _ _ _ t.all c.requires.grow)

pub make-requires-clause-ready : goal.make-requires-clause-ready
make-requires-clause-ready c =
    let r = c.requires.ready.2 in
    let o = one-own _ _ _ _ _ r in
    let t = planned_takes _ _ _ c.requires.plan r.cells o.key r.left c.args.spare.now r.ready o.spare_is _ _ _ c.count_if-second.ensures c.count_if.ensures c.count_if-2.ensures
    _ _ _ c.cell_if.ensures c.cell_if-2.ensures c.cell_if-3.ensures in
    subst (IsReady (heap_of c.args.arena.now) (planned (heap_of c.args.arena.now) c.args.parent c.args.place)) (sym t.cells_are) r.ready

pub make-requires-clause-room : goal.make-requires-clause-room
make-requires-clause-room c =
    let r = c.requires.ready.2 in
    let o = one-own _ _ _ _ _ r in
    let t = planned_takes _ _ _ c.requires.plan r.cells o.key r.left c.args.spare.now r.ready o.spare_is _ _ _ c.count_if-second.ensures c.count_if.ensures c.count_if-2.ensures
    _ _ _ c.cell_if.ensures c.cell_if-2.ensures c.cell_if-3.ensures in
    subst (λ k. HasRoom (heap_of c.args.arena.now) k (76 + length c.args.name.now)) (sym t.key_is) (key-room _ _ c.args.name.now o.room)

pub returns-clause-taken : goal.returns-clause-taken
returns-clause-taken c =
    let r = c.requires.ready.2 in
    let o = one-own _ _ _ _ _ r in
    let t = planned_takes _ _ _ c.requires.plan r.cells o.key r.left c.args.spare.now r.ready o.spare_is _ _ _ c.count_if-second.ensures c.count_if.ensures c.count_if-2.ensures
    _ _ _ c.cell_if.ensures c.cell_if-2.ensures c.cell_if-3.ensures in
    let l = t.long in
    let f = t.few in
    (omega arith, omega (arith, f), omega (arith, l))

pub returns-clause-grows : goal.returns-clause-grows
returns-clause-grows c =
    let r = c.requires.ready.2 in
    let o = one-own _ _ _ _ _ r in
    let t = planned_takes _ _ _ c.requires.plan r.cells o.key r.left c.args.spare.now r.ready o.spare_is _ _ _ c.count_if-second.ensures c.count_if.ensures c.count_if-2.ensures
    _ _ _ c.cell_if.ensures c.cell_if-2.ensures c.cell_if-3.ensures in
    respelt _ _ _ _ c.args.moment _ _ _ c.args.spare.now t.all (c.make.ensures.grows _)

pub returns-clause-ready : goal.returns-clause-ready
returns-clause-ready c = λ last more r.
    let o = one-own _ _ _ _ _ r in
    let t = planned_takes _ _ _ c.requires.plan r.cells o.key r.left c.args.spare.now r.ready o.spare_is _ _ _ c.count_if-second.ensures c.count_if.ensures c.count_if-2.ensures
    _ _ _ c.cell_if.ensures c.cell_if-2.ensures c.cell_if-3.ensures in
    subst (λ s. AreReady (heap_of c.args.arena.now) last first_cells more s) (sym t.left_is) r.rest
