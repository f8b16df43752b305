use Rattle.std.proofs.Common.{◌+◌, ◌*◌, [], get_or, length, sym, ◌∙◌, subst, arith}
use Rattle.reg_arena.specs.Arena.{heap_of}
use Rattle.reg_arena.specs.NewCells.{AreSizes}
use Rattle.reg_values.specs.ValueLists.{Became, Makes}
use Rattle.reg_values.specs.NewValues.{all_told}
use Rattle.reg_values.proofs.ValueData.NewCellRoom.{room-less}
use Rattle.reg_values.proofs.ValueChanges.ValuesPlanned.{small-each, told-length, all-ok, all-sizes, some-sizes}
use Rattle.reg_values.proofs.ValueChanges.KeptSizes.{fills-keeps, new-first}
use Rattle.reg_values.proofs.ValueChanges.ValuesMade.{some-cells, list-space, list-space2, other-room, list-apart, filled-makes, together, new-cells, exact-grows, grows-as}
use Rattle.reg_values.proofs.ValueChanges.UnusedOffsets.{new-list-unused}
use Rattle.reg_values.proofs.making.make_sized.Goals as goal

pub carve-requires-clause-sizes : goal.carve-requires-clause-sizes
carve-requires-clause-sizes c = subst AreSizes (sym c.requires.sizes) (all-ok c.args.room (all_told c.args.values.now))

pub bounds-all-0 : goal.bounds-all-0
bounds-all-0 c =
    let h0 = heap_of c.args.arena.now in
    let h1 = heap_of c.carve.new.self in
    let values = c.args.values.now in
    let all = c.as_slice-all.result.now in
    let o = c.in_ok-carve.ensures.ok (some-sizes values c.args.room c.args.sizes.now c.requires.sizes c.requires.some) in
    let a = new-cells h0 h1 values c.args.room c.args.sizes.now all _ _ o.0 c.requires.sizes c.requires.some c.as_slice-all.ensures.value o.1 c.in-Ok.ensures.items o.3.are_new in
    some-cells h0 h1 all _ _ a

pub fill-requires-clause-few : goal.fill-requires-clause-few
fill-requires-clause-few c = let r = c.requires.room in let f = c.requires.few in omega (arith, r, f)

pub fill-requires-clause-small : goal.fill-requires-clause-small
fill-requires-clause-small c = small-each (all_told c.args.values.now) [] c.requires.new

pub fill-requires-clause-list : goal.fill-requires-clause-list
fill-requires-clause-list c =
    let h0 = heap_of c.args.arena.now in
    let h1 = heap_of c.carve.new.self in
    let values = c.args.values.now in
    let all = c.as_slice-all.result.now in
    let o = c.in_ok-carve.ensures.ok (some-sizes values c.args.room c.args.sizes.now c.requires.sizes c.requires.some) in
    let a = new-cells h0 h1 values c.args.room c.args.sizes.now all _ _ o.0 c.requires.sizes c.requires.some c.as_slice-all.ensures.value o.1 c.in-Ok.ensures.items o.3.are_new in
    let r = c.requires.room in
    room-less h1 (get_or all 0 0) _ (4 * (0 + length values)) (omega (arith, r)) (list-space h0 h1 all _ _ a)

pub fill-requires-clause-cells : goal.fill-requires-clause-cells
fill-requires-clause-cells c =
    let h0 = heap_of c.args.arena.now in
    let h1 = heap_of c.carve.new.self in
    let values = c.args.values.now in
    let all = c.as_slice-all.result.now in
    let o = c.in_ok-carve.ensures.ok (some-sizes values c.args.room c.args.sizes.now c.requires.sizes c.requires.some) in
    let a = new-cells h0 h1 values c.args.room c.args.sizes.now all _ _ o.0 c.requires.sizes c.requires.some c.as_slice-all.ensures.value o.1 c.in-Ok.ensures.items o.3.are_new in
    other-room h0 h1 all _ _ a

pub fill-requires-clause-apart : goal.fill-requires-clause-apart
fill-requires-clause-apart c =
    let h0 = heap_of c.args.arena.now in
    let h1 = heap_of c.carve.new.self in
    let values = c.args.values.now in
    let all = c.as_slice-all.result.now in
    let o = c.in_ok-carve.ensures.ok (some-sizes values c.args.room c.args.sizes.now c.requires.sizes c.requires.some) in
    let a = new-cells h0 h1 values c.args.room c.args.sizes.now all _ _ o.0 c.requires.sizes c.requires.some c.as_slice-all.ensures.value o.1 c.in-Ok.ensures.items o.3.are_new in
    list-apart h0 h1 all _ _ a

pub returns-clause-ok : goal.returns-clause-ok
returns-clause-ok c =
    let h0 = heap_of c.args.arena.now in
    let h1 = heap_of c.carve.new.self in
    let values = c.args.values.now in
    let all = c.as_slice-all.result.now in
    let o = c.in_ok-carve.ensures.ok (some-sizes values c.args.room c.args.sizes.now c.requires.sizes c.requires.some) in
    let a = new-cells h0 h1 values c.args.room c.args.sizes.now all _ _ o.0 c.requires.sizes c.requires.some c.as_slice-all.ensures.value o.1 c.in-Ok.ensures.items o.3.are_new in
    let h2 = heap_of c.fill.new.arena in
    let n = told-length values in
    let s = c.requires.some in
    let r = c.requires.room in
    let f = c.requires.few in
    subst (λ n. Became h0 h2 [] n (get_or all 0 0) (all_told values)) n
    (together h0 h1 all _ _ a h2 c.fill.ensures.fills (all_told values) (omega (arith, n, r)) c.fill.ensures.stand c.requires.new (omega (arith, n, s)) (omega (arith, n, r, f)))

pub returns-clause-room : goal.returns-clause-room
returns-clause-room c =
    let h0 = heap_of c.args.arena.now in
    let h1 = heap_of c.carve.new.self in
    let values = c.args.values.now in
    let all = c.as_slice-all.result.now in
    let o = c.in_ok-carve.ensures.ok (some-sizes values c.args.room c.args.sizes.now c.requires.sizes c.requires.some) in
    let a = new-cells h0 h1 values c.args.room c.args.sizes.now all _ _ o.0 c.requires.sizes c.requires.some c.as_slice-all.ensures.value o.1 c.in-Ok.ensures.items o.3.are_new in
    let h2 = heap_of c.fill.new.arena in
    room-less h2 (get_or all 0 0) _ (4 * c.args.room) (omega arith) (list-space2 h0 h1 all _ _ a h2 c.fill.ensures.fills)

pub returns-clause-unused : goal.returns-clause-unused
returns-clause-unused c = λ n l.
    let h0 = heap_of c.args.arena.now in
    let h1 = heap_of c.carve.new.self in
    let values = c.args.values.now in
    let all = c.as_slice-all.result.now in
    let o = c.in_ok-carve.ensures.ok (some-sizes values c.args.room c.args.sizes.now c.requires.sizes c.requires.some) in
    let a = new-cells h0 h1 values c.args.room c.args.sizes.now all _ _ o.0 c.requires.sizes c.requires.some c.as_slice-all.ensures.value o.1 c.in-Ok.ensures.items o.3.are_new in
    c.fill.ensures.behind n (omega (arith, l)) ∙ new-list-unused h0 h1 all _ _ a n (omega arith)

pub returns-clause-cells : goal.returns-clause-cells
returns-clause-cells c =
    let h0 = heap_of c.args.arena.now in
    let h1 = heap_of c.carve.new.self in
    let values = c.args.values.now in
    let all = c.as_slice-all.result.now in
    let o = c.in_ok-carve.ensures.ok (some-sizes values c.args.room c.args.sizes.now c.requires.sizes c.requires.some) in
    let a = new-cells h0 h1 values c.args.room c.args.sizes.now all _ _ o.0 c.requires.sizes c.requires.some c.as_slice-all.ensures.value o.1 c.in-Ok.ensures.items o.3.are_new in
    let h2 = heap_of c.fill.new.arena in
    let e = all-sizes values c.args.room c.requires.some in
    subst (Makes h0 h2) (e ∙ sym c.requires.sizes) (filled-makes h0 h1 all _ _ a h2 c.fill.ensures.fills (subst AreSizes (sym e) (all-ok c.args.room (all_told values))))

pub returns-clause-stay : goal.returns-clause-stay
returns-clause-stay c =
    let o = c.in_ok-carve.ensures.ok (some-sizes c.args.values.now c.args.room c.args.sizes.now c.requires.sizes c.requires.some) in
    new-first (heap_of c.args.arena.now) (heap_of c.carve.new.self) (heap_of c.fill.new.arena) _ o.3.are_new.come (fills-keeps _ _ _ c.fill.ensures.fills)

pub returns-clause-growth : goal.returns-clause-growth
returns-clause-growth c =
    let some = some-sizes c.args.values.now c.args.room c.args.sizes.now c.requires.sizes c.requires.some in
    let o = c.in_ok-carve.ensures.ok some in
    grows-as _ c.carve.new.self.bytes _ _ c.fill.ensures.long (exact-grows _ _ _ o.0 some o.2)
