use Rattle.std.proofs.Common.{◌+◌, ◌-◌, ◌/◌, ◌<◌, length, arith}
use Rattle.reg_names.specs.Names.{folded}
use Rattle.reg_arena.specs.Arena.{heap_of}
use Rattle.reg_index.proofs.ListPlaces.{leaf-of, list-stands}
use Rattle.reg_index.proofs.NameSearch.{first-lists, is-list-key, list-begins, list-behind, list-left, no-greater}
use Rattle.reg_index.proofs.finding.list_for.Goals as goal

pub loop-low-init : goal.loop-low-init
loop-low-init c = λ offset lists h here some keys.
    first-lists (heap_of c.args.arena.now) lists (folded c.args.name.now) c.lists_in-high.result some (c.lists_in-high.ensures.count (heap_of c.args.arena.now) offset lists h here some)

pub leaf_in-requires-clause-root : goal.leaf_in-requires-clause-root
leaf_in-requires-clause-root c =
    let s = c.requires in
    let b = c.loop-low.invariant s.0 s.1 s.2 s.3 s.4 s.5 in (
      heap_of c.args.arena.now,
      s.0,
      s.1,
      s.2,
      s.3,
      omega (arith, b.some, b.within, c.loop-low-test.true),
      omega (arith, b.within, c.loop-low-test.true),
    )

pub key_in-first-requires-clause-leaf : goal.key_in-first-requires-clause-leaf
key_in-first-requires-clause-leaf c =
    let s = c.requires in
    let b = c.loop-low.invariant s.0 s.1 s.2 s.3 s.4 s.5 in
    let m = c.loop-low.low + (c.loop-low.high - c.loop-low.low) / 2 in
    let l : m < length s.1 = omega (arith, b.within, c.loop-low-test.true) in (
      _,
      leaf-of (heap_of c.args.arena.now) s.0 s.1 m c.leaf_in.result s.2 l (c.leaf_in.ensures (heap_of c.args.arena.now) s.0 s.1 s.2 s.3 (omega (arith, b.some, l)) l),
      omega (arith, (list-stands (heap_of c.args.arena.now) s.0 s.1 m s.2 l).written.some),
    )

pub name_of-requires : goal.name_of-requires
name_of-requires c =
    let s = c.requires in
    let b = c.loop-low.invariant s.0 s.1 s.2 s.3 s.4 s.5 in
    let m = c.loop-low.low + (c.loop-low.high - c.loop-low.low) / 2 in
    let l : m < length s.1 = omega (arith, b.within, c.loop-low-test.true) in
    is-list-key (heap_of c.args.arena.now) s.0 s.1 s.2 s.5 c.loop-low.low c.loop-low.high m c.key_in-first.result c.args.name.now (omega arith)
    (omega (arith, c.loop-low-test.true)) b
    (c.key_in-first.ensures _ (leaf-of (heap_of c.args.arena.now) s.0 s.1 m c.leaf_in.result s.2 l (c.leaf_in.ensures (heap_of c.args.arena.now) s.0 s.1 s.2 s.3 (omega (arith, b.some, l)) l))
    (omega (arith, (list-stands (heap_of c.args.arena.now) s.0 s.1 m s.2 l).written.some)))

pub loop-low-preserved-in-Less : goal.loop-low-preserved-in-Less
loop-low-preserved-in-Less c = λ offset lists h here some keys.
    let b = c.loop-low.invariant offset lists h here some keys in
    let m = c.loop-low.low + (c.loop-low.high - c.loop-low.low) / 2 in
    let l : m < length lists = omega (arith, b.within, c.loop-low-test.true) in
    list-begins (heap_of c.args.arena.now) offset lists h keys c.loop-low.low c.loop-low.high m c.key_in-first.result c.args.name.now (omega arith)
    (omega (arith, c.loop-low-test.true)) b
    (c.key_in-first.ensures _ (leaf-of (heap_of c.args.arena.now) offset lists m c.leaf_in.result h l (c.leaf_in.ensures (heap_of c.args.arena.now) offset lists h here (omega (arith, b.some, l)) l))
    (omega (arith, (list-stands (heap_of c.args.arena.now) offset lists m h l).written.some)))
    c.name_of.result.now c.name_of.ensures (no-greater c.order.result _ c.in-Less.is c.order.ensures)

pub loop-low-preserved : goal.loop-low-preserved
loop-low-preserved c = λ offset lists h here some keys.
    let b = c.loop-low.invariant offset lists h here some keys in
    let m = c.loop-low.low + (c.loop-low.high - c.loop-low.low) / 2 in
    let l : m < length lists = omega (arith, b.within, c.loop-low-test.true) in
    list-behind (heap_of c.args.arena.now) offset lists h keys c.loop-low.low c.loop-low.high m c.key_in-first.result c.args.name.now (omega arith)
    (omega (arith, c.loop-low-test.true)) b
    (c.key_in-first.ensures _ (leaf-of (heap_of c.args.arena.now) offset lists m c.leaf_in.result h l (c.leaf_in.ensures (heap_of c.args.arena.now) offset lists h here (omega (arith, b.some, l)) l))
    (omega (arith, (list-stands (heap_of c.args.arena.now) offset lists m h l).written.some)))
    c.name_of.result.now c.name_of.ensures c.in-Greater.ensures

pub overflow_sub-result : goal.overflow_sub-result
overflow_sub-result c = let s = c.requires in (c.loop-low.invariant s.0 s.1 s.2 s.3 s.4 s.5).some

pub returns : goal.returns
returns c = λ offset lists h here some keys.
    list-left (heap_of c.args.arena.now) lists (folded c.args.name.now) c.loop-low.low c.loop-low.high (omega (arith, c.loop-low-test.false)) (c.loop-low.invariant offset lists h here some keys)
