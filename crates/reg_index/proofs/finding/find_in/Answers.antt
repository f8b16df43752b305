use Rattle.std.proofs.Common.{◌+◌, ◌-◌, ◌/◌, ◌<◌, length, arith}
use Rattle.reg_names.specs.Names.{folded}
use Rattle.reg_arena.specs.Arena.{heap_of}
use Rattle.reg_index.proofs.NameSearch.{all-between, belongs, is-key, is-before, is-behind, is-found, length-names}
use Rattle.reg_index.proofs.finding.find_in.Goals as goal

pub loop-low-init : goal.loop-low-init
loop-low-init c = λ offset entries is here keys.
    all-between (heap_of c.args.arena.now) (folded c.args.name.now) entries c.count_in-high.result (c.count_in-high.ensures (heap_of c.args.arena.now) offset entries is here)

pub offset_in-requires-clause-leaf : goal.offset_in-requires-clause-leaf
offset_in-requires-clause-leaf c =
    let s = c.requires in
    let b = c.loop-low.invariant s.0 s.1 s.2 s.3 s.4 in
    (heap_of c.args.arena.now, s.0, s.1, s.2, s.3, omega (arith, b.within, length-names (heap_of c.args.arena.now) s.1, c.loop-low-test.true))

pub offset_in-requires-clause-few : goal.offset_in-requires-clause-few
offset_in-requires-clause-few c =
    let s = c.requires in
    let b = c.loop-low.invariant s.0 s.1 s.2 s.3 s.4 in
    omega (arith, b.within, length-names (heap_of c.args.arena.now) s.1, c.loop-low-test.true, s.5)

pub name_of-requires : goal.name_of-requires
name_of-requires c =
    let s = c.requires in
    let b = c.loop-low.invariant s.0 s.1 s.2 s.3 s.4 in
    let l : c.loop-low.low + (c.loop-low.high - c.loop-low.low) / 2 < length s.1 = omega (arith, b.within, length-names (heap_of c.args.arena.now) s.1, c.loop-low-test.true) in
    is-key (heap_of c.args.arena.now) s.1 s.4 c.loop-low.low c.loop-low.high (c.loop-low.low + (c.loop-low.high - c.loop-low.low) / 2) c.offset_in.result
    c.args.name.now (omega arith) (omega (arith, c.loop-low-test.true)) b (c.offset_in.ensures (heap_of c.args.arena.now) s.0 s.1 s.2 s.3 l)

pub loop-low-preserved-in-Less : goal.loop-low-preserved-in-Less
loop-low-preserved-in-Less c = λ offset entries is here keys.
    let b = c.loop-low.invariant offset entries is here keys in
    let l : c.loop-low.low + (c.loop-low.high - c.loop-low.low) / 2 < length entries = omega (arith, b.within, length-names (heap_of c.args.arena.now) entries, c.loop-low-test.true) in
    is-before (heap_of c.args.arena.now) entries keys c.loop-low.low c.loop-low.high (c.loop-low.low + (c.loop-low.high - c.loop-low.low) / 2) c.offset_in.result
    c.args.name.now (omega arith) (omega (arith, c.loop-low-test.true)) b
    (c.offset_in.ensures (heap_of c.args.arena.now) offset entries is here l) c.name_of.result.now c.name_of.ensures c.in-Less.ensures

pub loop-low-preserved : goal.loop-low-preserved
loop-low-preserved c = λ offset entries is here keys.
    let b = c.loop-low.invariant offset entries is here keys in
    let l : c.loop-low.low + (c.loop-low.high - c.loop-low.low) / 2 < length entries = omega (arith, b.within, length-names (heap_of c.args.arena.now) entries, c.loop-low-test.true) in
    is-behind (heap_of c.args.arena.now) entries keys c.loop-low.low c.loop-low.high (c.loop-low.low + (c.loop-low.high - c.loop-low.low) / 2) c.offset_in.result
    c.args.name.now (omega arith) (omega (arith, c.loop-low-test.true)) b
    (c.offset_in.ensures (heap_of c.args.arena.now) offset entries is here l) c.name_of.result.now c.name_of.ensures c.in-Greater.ensures

pub returns-in-Equal : goal.returns-in-Equal
returns-in-Equal c = λ offset entries is here keys.
    let b = c.loop-low.invariant offset entries is here keys in
    let l : c.loop-low.low + (c.loop-low.high - c.loop-low.low) / 2 < length entries = omega (arith, b.within, length-names (heap_of c.args.arena.now) entries, c.loop-low-test.true) in
    is-found (heap_of c.args.arena.now) entries keys c.loop-low.low c.loop-low.high (c.loop-low.low + (c.loop-low.high - c.loop-low.low) / 2) c.offset_in.result
    c.args.name.now (omega arith) (omega (arith, c.loop-low-test.true)) b
    (c.offset_in.ensures (heap_of c.args.arena.now) offset entries is here l) c.name_of.result.now c.name_of.ensures c.in-Equal.ensures

pub returns : goal.returns
returns c = λ offset entries is here keys.
    belongs (heap_of c.args.arena.now) entries c.loop-low.low c.loop-low.high (folded c.args.name.now) (omega (arith, c.loop-low-test.false)) (c.loop-low.invariant offset entries is here keys)
