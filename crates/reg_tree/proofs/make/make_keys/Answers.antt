use Rattle.std.proofs.Common.{sym, ap, subst, ◌∙◌, ◌++◌, arith}
use Rattle.reg_names.specs.Names.{path_of}
use Rattle.reg_arena.specs.Arena.{heap_of}
use Rattle.reg_index.specs.Subkeys.{taken}
use Rattle.reg_tree.specs.CellSizes.{planned_sizes}
use Rattle.reg_tree.specs.Internal.DescriptorChange.{class_of, last_of}
use Rattle.reg_tree.specs.Internal.KeyCreation.{IsGrownAll}
use Rattle.reg_tree.specs.Internal.SpareCells.{HaveSizes}
use Rattle.reg_tree.proofs.PathWalk.ReachedSeen.{named}
use Rattle.reg_tree.proofs.InsertKey.PathCarve.{parent_there, parent_subkeys, parent_place, plan_is}
use Rattle.reg_tree.proofs.InsertKey.CarvedCells.{spare-long, has-last, has-class, rooms, both-taken}
use Rattle.reg_tree.proofs.InsertKey.CreatePath.{parent_here, has_room}
use Rattle.reg_tree.proofs.InsertKey.CreatePathMade.{plan_then, place_then, may_make, grown_all, grown_room, created_cells, created_growth, created_room, growth-then}
use Rattle.reg_tree.proofs.InsertKey.CreatePathEnds.{spared_as}
use Rattle.reg_tree.proofs.InsertKey.MadeCells.{kept_sizes}
use Rattle.reg_tree.proofs.make.make_keys.Goals as goal

pub subkeys_list-list-requires : goal.subkeys_list-list-requires
subkeys_list-list-requires c =
    let l = c.requires.reached.2 in
    parent_there _ _ (parent_here _ _ l.here _ _ _ l.reaches 0)

pub plan_insert-plan-requires-clause-subkeys : goal.plan_insert-plan-requires-clause-subkeys
plan_insert-plan-requires-clause-subkeys c =
    let l = c.requires.reached.2 in
    parent_subkeys _ _ (parent_here _ _ l.here _ _ _ l.reaches 0) _ _ c.subkeys_list-list.ensures

pub plan_insert-plan-requires-clause-place : goal.plan_insert-plan-requires-clause-place
plan_insert-plan-requires-clause-place c =
    let l = c.requires.reached.2 in
    parent_place _ _ (parent_here _ _ l.here _ _ _ l.reaches 0) _ _ c.subkeys_list-list.ensures _ _ c.requires.place (named _ c.requires.missing)

pub carve_for-requires-clause-plan : goal.carve_for-requires-clause-plan
carve_for-requires-clause-plan c =
    let l = c.requires.reached.2 in
    let here = parent_here _ _ l.here _ _ _ l.reaches 0 in
    (_, _, here, plan_is _ _ here _ _ c.subkeys_list-list.ensures _ _ c.plan_insert-plan.ensures)

pub carve_for-requires-clause-few : goal.carve_for-requires-clause-few
carve_for-requires-clause-few c =
    let l = c.requires.reached.2 in
    (has_room _ _ l.here _ _ _ l.reaches 0 l.depth (named _ c.requires.missing) c.requires.reached.3).0

pub returns-in-Err-clause-space : goal.returns-in-Err-clause-space
returns-in-Err-clause-space c = λ from path l full.
    let here = parent_here _ from l.here path _ _ l.reaches 0 in
    let plan = plan_is _ _ here _ _ c.subkeys_list-list.ensures c.args.reached.place _ c.plan_insert-plan.ensures in
    created_room c.args.arena.now from l.here path _ _ l.reaches 0 c.args.reached.place plan _ (c.in-Err.ensures.space full)

pub make_all-node-requires-clause-grow : goal.make_all-node-requires-clause-grow
make_all-node-requires-clause-grow c =
    let l = c.requires.reached.2 in
    let here = parent_here _ _ l.here _ _ _ l.reaches c.args.moment in
    let plan = plan_is _ _ here _ _ c.subkeys_list-list.ensures c.args.reached.place _ c.plan_insert-plan.ensures in
    let room = has_room _ _ l.here _ _ _ l.reaches c.args.moment l.depth (named _ c.requires.missing) c.requires.reached.3 in
    let more = planned_sizes c.args.class ++ planned_sizes c.args.more in
    let last = taken (class_of c.args.class c.args.more c.in-Ok.cells.items) ++ taken (last_of c.args.more c.in-Ok.cells.items) in
    let s = spared_as _ _ _ _ _ more last c.deref.result.now c.in-Ok.cells.items c.deref.ensures.value (c.in-Ok.ensures.ok _ _ here plan) in
    (last, may_make _ _ l.here _ _ _ l.reaches c.args.moment l.depth _ _ more last c.deref.result.now s room.1 room.2 c.requires.place)

pub make_all-node-requires-clause-place : goal.make_all-node-requires-clause-place
make_all-node-requires-clause-place c =
    let l = c.requires.reached.2 in
    let here = parent_here _ _ l.here _ _ _ l.reaches c.args.moment in
    let plan = plan_is _ _ here _ _ c.subkeys_list-list.ensures c.args.reached.place _ c.plan_insert-plan.ensures in
    let room = has_room _ _ l.here _ _ _ l.reaches c.args.moment l.depth (named _ c.requires.missing) c.requires.reached.3 in
    let more = planned_sizes c.args.class ++ planned_sizes c.args.more in
    let last = taken (class_of c.args.class c.args.more c.in-Ok.cells.items) ++ taken (last_of c.args.more c.in-Ok.cells.items) in
    place_then _ _ l.here _ _ _ l.reaches c.args.moment l.depth _ _ more last _ (c.in-Ok.ensures.ok _ _ here plan) room.1 room.2 c.requires.place

pub make_all-node-requires-clause-plan : goal.make_all-node-requires-clause-plan
make_all-node-requires-clause-plan c =
    let l = c.requires.reached.2 in
    let here = parent_here _ _ l.here _ _ _ l.reaches c.args.moment in
    let plan = plan_is _ _ here _ _ c.subkeys_list-list.ensures c.args.reached.place _ c.plan_insert-plan.ensures in
    let room = has_room _ _ l.here _ _ _ l.reaches c.args.moment l.depth (named _ c.requires.missing) c.requires.reached.3 in
    let more = planned_sizes c.args.class ++ planned_sizes c.args.more in
    let last = taken (class_of c.args.class c.args.more c.in-Ok.cells.items) ++ taken (last_of c.args.more c.in-Ok.cells.items) in
    plan ∙ sym (plan_then _ _ l.here _ _ _ l.reaches c.args.moment l.depth _ _ more last _ (c.in-Ok.ensures.ok _ _ here plan) room.1 room.2 c.requires.place (named _ c.requires.missing))

pub make_all-node-requires-clause-depth : goal.make_all-node-requires-clause-depth
make_all-node-requires-clause-depth c =
    let l = c.requires.reached.2 in
    let deep = (has_room _ _ l.here _ _ _ l.reaches 0 l.depth (named _ c.requires.missing) c.requires.reached.3).1 in
    omega (arith, deep)

pub class_cell-requires : goal.class_cell-requires
class_cell-requires c =
    let l = c.requires.reached.2 in
    let here = parent_here _ _ l.here _ _ _ l.reaches c.args.moment in
    let plan = plan_is _ _ here _ _ c.subkeys_list-list.ensures c.args.reached.place _ c.plan_insert-plan.ensures in
    let s = spared_as _ _ _ _ _ _ _ c.deref-2.result.now c.in-Ok.cells.items c.deref-2.ensures.value (c.in-Ok.ensures.ok _ _ here plan) in
    has-class c.args.class c.args.more c.deref-2.result.now (spare-long _ _ _ _ _ _ _ _ s)

pub last_cell-requires : goal.last_cell-requires
last_cell-requires c =
    let l = c.requires.reached.2 in
    let here = parent_here _ _ l.here _ _ _ l.reaches c.args.moment in
    let plan = plan_is _ _ here _ _ c.subkeys_list-list.ensures c.args.reached.place _ c.plan_insert-plan.ensures in
    let s = spared_as _ _ _ _ _ _ _ c.deref-3.result.now c.in-Ok.cells.items c.deref-3.ensures.value (c.in-Ok.ensures.ok _ _ here plan) in
    has-last c.args.class c.args.more c.deref-3.result.now (spare-long _ _ _ _ _ _ _ _ s)

pub returns-clause-ok : goal.returns-clause-ok
returns-clause-ok c = λ from path l.
    let m = c.requires.reached.2 in
    let here = parent_here _ from l.here path _ _ l.reaches c.args.moment in
    let plan = plan_is _ _ here _ _ c.subkeys_list-list.ensures c.args.reached.place _ c.plan_insert-plan.ensures in
    let room = has_room _ _ m.here _ _ _ m.reaches c.args.moment m.depth (named _ c.requires.missing) c.requires.reached.3 in
    let more = planned_sizes c.args.class ++ planned_sizes c.args.more in
    let last = taken (class_of c.args.class c.args.more c.in-Ok.cells.items) ++ taken (last_of c.args.more c.in-Ok.cells.items) in
    let s = spared_as _ _ _ _ _ more last c.deref.result.now c.in-Ok.cells.items c.deref.ensures.value (c.in-Ok.ensures.ok _ _ here plan) in
    let class_is = c.class_cell.ensures ∙ ap (class_of c.args.class c.args.more) c.deref-2.ensures.value in
    let last_is = c.last_cell.ensures ∙ ap (last_of c.args.more) c.deref-3.ensures.value in
    subst (λ cells. IsGrownAll c.args.arena.now.bytes c.make_all-node.new.arena.bytes l.here.root l.here.path (path_of path) c.args.moment l.here.holds.ring cells from c.make_all-node.result)
    (both-taken _ _ c.class_cell.result c.last_cell.result class_is last_is)
    (grown_all _ from l.here path _ _ l.reaches c.args.moment l.depth _ _ more last c.deref.result.now s room.1 room.2 c.requires.place _ c.make_all-node.result
    (c.make_all-node.ensures.grows last (may_make _ from l.here path _ _ l.reaches c.args.moment l.depth _ _ more last c.deref.result.now s room.1 room.2 c.requires.place)))

pub returns-clause-room : goal.returns-clause-room
returns-clause-room c =
    let m = c.requires.reached.2 in
    let here = parent_here _ _ m.here _ _ _ m.reaches c.args.moment in
    let plan = plan_is _ _ here _ _ c.subkeys_list-list.ensures c.args.reached.place _ c.plan_insert-plan.ensures in
    let room = has_room _ _ m.here _ _ _ m.reaches c.args.moment m.depth (named _ c.requires.missing) c.requires.reached.3 in
    let more = planned_sizes c.args.class ++ planned_sizes c.args.more in
    let last = taken (class_of c.args.class c.args.more c.in-Ok.cells.items) ++ taken (last_of c.args.more c.in-Ok.cells.items) in
    let s = spared_as _ _ _ _ _ more last c.deref.result.now c.in-Ok.cells.items c.deref.ensures.value (c.in-Ok.ensures.ok _ _ here plan) in
    let class_is = c.class_cell.ensures ∙ ap (class_of c.args.class c.args.more) c.deref-2.ensures.value in
    let last_is = c.last_cell.ensures ∙ ap (last_of c.args.more) c.deref-3.ensures.value in
    let all = rooms (heap_of c.make_all-node.new.arena) c.args.class c.args.more c.in-Ok.cells.items
    (grown_room _ _ m.here _ _ _ m.reaches c.args.moment m.depth _ _ more last c.deref.result.now s room.1 room.2 c.requires.place _ c.make_all-node.result
    (c.make_all-node.ensures.grows last (may_make _ _ m.here _ _ _ m.reaches c.args.moment m.depth _ _ more last c.deref.result.now s room.1 room.2 c.requires.place))) in (
      subst (λ o. HaveSizes (heap_of c.make_all-node.new.arena) (taken o) (planned_sizes c.args.class)) (sym class_is) all.0,
      subst (λ o. HaveSizes (heap_of c.make_all-node.new.arena) (taken o) (planned_sizes c.args.more)) (sym last_is) all.1,
    )

pub returns-clause-cells : goal.returns-clause-cells
returns-clause-cells c = λ from path l.
    let here = parent_here _ from l.here path _ _ l.reaches c.args.moment in
    let plan = plan_is _ _ here _ _ c.subkeys_list-list.ensures c.args.reached.place _ c.plan_insert-plan.ensures in
    let s = spared_as _ _ _ _ _ _ _ c.deref.result.now c.in-Ok.cells.items c.deref.ensures.value (c.in-Ok.ensures.ok _ _ here plan) in
    created_cells c.args.arena.now from l.here path _ _ l.reaches c.args.moment _ _ _ _ _ c.deref.result.now s c.make_all-node.ensures.keeps c.make_all-node.ensures.stay

pub returns-clause-stay : goal.returns-clause-stay
returns-clause-stay c =
    let l = c.requires.reached.2 in
    let here = parent_here _ _ l.here _ _ _ l.reaches 0 in
    let plan = plan_is _ _ here _ _ c.subkeys_list-list.ensures c.args.reached.place _ c.plan_insert-plan.ensures in
    kept_sizes _ _ _ _ (c.in-Ok.ensures.ok _ _ here plan).come c.make_all-node.ensures.keeps

pub returns-clause-growth : goal.returns-clause-growth
returns-clause-growth c = λ from path l.
    let here = parent_here _ from l.here path _ _ l.reaches c.args.moment in
    let plan = plan_is _ _ here _ _ c.subkeys_list-list.ensures c.args.reached.place _ c.plan_insert-plan.ensures in
    growth-then c.args.arena.now.bytes c.carve_for.new.arena.bytes c.make_all-node.new.arena.bytes _ c.make_all-node.ensures.long
    (created_growth c.args.arena.now from l.here path _ _ l.reaches c.args.moment c.args.reached.place plan _ _ c.in-Ok.ensures.growth)
