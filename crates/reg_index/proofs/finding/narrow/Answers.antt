use Rattle.std.proofs.Common.{◌+◌, ◌-◌, ◌/◌, ◌<◌, length, arith}
use Rattle.reg_arena.specs.Arena.{heap_of}
use Rattle.reg_index.proofs.NameSearch.{is-key, is-first, is-behind, length-names, no-greater}
use Rattle.reg_index.proofs.finding.narrow.Goals as goal

pub name_of-requires : goal.name_of-requires
name_of-requires c =
    let s = c.requires in
    let b = c.loop-high.invariant s.0 s.1 s.2 s.3 s.4 in
    let m = c.loop-high.low + (c.loop-high.high - c.loop-high.low) / 2 in
    let l : m < length s.1 = omega (arith, b.within, length-names (heap_of c.args.arena.now) s.1, c.loop-high-test.true) in
    is-key (heap_of c.args.arena.now) s.1 s.4 c.loop-high.low c.loop-high.high m c.offset_in-key.result
    c.args.name.now (omega arith) (omega (arith, c.loop-high-test.true)) b (c.offset_in-key.ensures (heap_of c.args.arena.now) s.0 s.1 s.2 s.3 l)

pub loop-high-preserved-in-Less : goal.loop-high-preserved-in-Less
loop-high-preserved-in-Less c = λ offset entries is here keys.
    let b = c.loop-high.invariant offset entries is here keys in
    let m = c.loop-high.low + (c.loop-high.high - c.loop-high.low) / 2 in
    let l : m < length entries = omega (arith, b.within, length-names (heap_of c.args.arena.now) entries, c.loop-high-test.true) in
    is-first (heap_of c.args.arena.now) entries keys c.loop-high.low c.loop-high.high m c.offset_in-key.result
    c.args.name.now (omega arith) (omega (arith, c.loop-high-test.true)) b
    (c.offset_in-key.ensures (heap_of c.args.arena.now) offset entries is here l) c.name_of.result.now c.name_of.ensures
    (no-greater c.order.result _ c.in-Less.is c.order.ensures)

pub loop-high-preserved : goal.loop-high-preserved
loop-high-preserved c = λ offset entries is here keys.
    let b = c.loop-high.invariant offset entries is here keys in
    let m = c.loop-high.low + (c.loop-high.high - c.loop-high.low) / 2 in
    let l : m < length entries = omega (arith, b.within, length-names (heap_of c.args.arena.now) entries, c.loop-high-test.true) in
    is-behind (heap_of c.args.arena.now) entries keys c.loop-high.low c.loop-high.high m c.offset_in-key.result
    c.args.name.now (omega arith) (omega (arith, c.loop-high-test.true)) b
    (c.offset_in-key.ensures (heap_of c.args.arena.now) offset entries is here l) c.name_of.result.now c.name_of.ensures c.in-Greater.ensures
