use Rattle.std.proofs.Common.{◌-◌, ◌<◌, length, arith}
use Rattle.reg_arena.specs.Arena.{heap_of}
use Rattle.reg_index.proofs.ListPlaces.{list-stands}
use Rattle.reg_index.proofs.NameBehindAll.{last-key, behind-all}
use Rattle.reg_index.proofs.finding.place_behind_all.Goals as goal

pub count_in-index-requires : goal.count_in-index-requires
count_in-index-requires c =
    let s = c.requires in
    let l : c.lists_in-list.result - 1 < length s.1 = omega (arith, c.lists_in-list.ensures.count (heap_of c.args.arena.now) s.0 s.1 s.2 s.3 s.4, s.4) in
    (heap_of c.args.arena.now, _, _, (list-stands (heap_of c.args.arena.now) s.0 s.1 (c.lists_in-list.result - 1) s.2 l).leaf, c.leaf_under-leaf.ensures s.0 s.1 s.2 s.3 l)

pub overflow_sub-index : goal.overflow_sub-index
overflow_sub-index c =
    let s = c.requires in
    let l : c.lists_in-list.result - 1 < length s.1 = omega (arith, c.lists_in-list.ensures.count (heap_of c.args.arena.now) s.0 s.1 s.2 s.3 s.4, s.4) in
    let i = (list-stands (heap_of c.args.arena.now) s.0 s.1 (c.lists_in-list.result - 1) s.2 l).leaf in
    let row = c.leaf_under-leaf.ensures s.0 s.1 s.2 s.3 l in
    omega (arith, c.count_in-index.ensures (heap_of c.args.arena.now) _ _ i row, (list-stands (heap_of c.args.arena.now) s.0 s.1 (c.lists_in-list.result - 1) s.2 l).written.some)

pub offset_in-last-requires-clause-leaf : goal.offset_in-last-requires-clause-leaf
offset_in-last-requires-clause-leaf c =
    let s = c.requires in
    let l : c.lists_in-list.result - 1 < length s.1 = omega (arith, c.lists_in-list.ensures.count (heap_of c.args.arena.now) s.0 s.1 s.2 s.3 s.4, s.4) in
    let i = (list-stands (heap_of c.args.arena.now) s.0 s.1 (c.lists_in-list.result - 1) s.2 l).leaf in
    let row = c.leaf_under-leaf.ensures s.0 s.1 s.2 s.3 l in
    let some = (list-stands (heap_of c.args.arena.now) s.0 s.1 (c.lists_in-list.result - 1) s.2 l).written.some in
    (heap_of c.args.arena.now, _, _, i, row, omega (arith, c.count_in-index.ensures (heap_of c.args.arena.now) _ _ i row, some))

pub offset_in-last-requires-clause-few : goal.offset_in-last-requires-clause-few
offset_in-last-requires-clause-few c =
    let s = c.requires in
    let l : c.lists_in-list.result - 1 < length s.1 = omega (arith, c.lists_in-list.ensures.count (heap_of c.args.arena.now) s.0 s.1 s.2 s.3 s.4, s.4) in
    let i = (list-stands (heap_of c.args.arena.now) s.0 s.1 (c.lists_in-list.result - 1) s.2 l).leaf in
    let row = c.leaf_under-leaf.ensures s.0 s.1 s.2 s.3 l in
    let w = (list-stands (heap_of c.args.arena.now) s.0 s.1 (c.lists_in-list.result - 1) s.2 l).written in
    omega (arith, c.count_in-index.ensures (heap_of c.args.arena.now) _ _ i row, w.some, w.few)

pub name_of-requires : goal.name_of-requires
name_of-requires c =
    let s = c.requires in
    let e = c.lists_in-list.ensures.count (heap_of c.args.arena.now) s.0 s.1 s.2 s.3 s.4 in
    let l : c.lists_in-list.result - 1 < length s.1 = omega (arith, e, s.4) in
    let i = (list-stands (heap_of c.args.arena.now) s.0 s.1 (c.lists_in-list.result - 1) s.2 l).leaf in
    let row = c.leaf_under-leaf.ensures s.0 s.1 s.2 s.3 l in
    let n = c.count_in-index.ensures (heap_of c.args.arena.now) _ _ i row in
    let w = (list-stands (heap_of c.args.arena.now) s.0 s.1 (c.lists_in-list.result - 1) s.2 l).written in
    last-key (heap_of c.args.arena.now) s.1 s.5 (c.lists_in-list.result - 1) (c.count_in-index.result - 1) c.offset_in-last.result c.args.name.now
    (omega (arith, e, s.4)) (omega (arith, n, w.some)) (c.offset_in-last.ensures (heap_of c.args.arena.now) _ _ i row (omega (arith, n, w.some)))

pub returns-in-Less : goal.returns-in-Less
returns-in-Less c = λ offset lists h here some keys.
    let e = c.lists_in-list.ensures.count (heap_of c.args.arena.now) offset lists h here some in
    let l : c.lists_in-list.result - 1 < length lists = omega (arith, e, some) in
    let i = (list-stands (heap_of c.args.arena.now) offset lists (c.lists_in-list.result - 1) h l).leaf in
    let row = c.leaf_under-leaf.ensures offset lists h here l in
    let n = c.count_in-index.ensures (heap_of c.args.arena.now) _ _ i row in
    let w = (list-stands (heap_of c.args.arena.now) offset lists (c.lists_in-list.result - 1) h l).written in
    behind-all (heap_of c.args.arena.now) lists keys (c.lists_in-list.result - 1) (c.count_in-index.result - 1) c.offset_in-last.result c.args.name.now
    (omega (arith, e, some)) (omega (arith, n, w.some)) (c.offset_in-last.ensures (heap_of c.args.arena.now) _ _ i row (omega (arith, n, w.some)))
    c.name_of.result.now c.name_of.ensures c.in-Less.ensures c.count_in-index.result (omega (arith, n, w.some))
