use Rattle.std.proofs.Common.{ℕ, ◌+◌, ◌≤◌, ◌++◌, ◌∙◌, List, sym, subst, arith}
use Rattle.reg_heap.specs.Heaps.{allocated}
use Rattle.reg_heap.specs.Kinds.{Found, owned}
use Rattle.reg_arena.specs.Arena.{heap_of}
use Rattle.reg_arena.specs.NewCells.{AreSizes}
use Rattle.reg_shape.specs.Written.{AreWritten}
use Rattle.reg_values.specs.ValueLists.{Became, Makes}
use Rattle.reg_values.specs.NewValues.{all_told}
use Rattle.reg_values.proofs.ValueListing.FoundValues.{same-read}
use Rattle.reg_values.proofs.ValueData.FilledCells.{fills-room}
use Rattle.reg_values.proofs.ValueChanges.KeptSizes.{fills-keeps, new-first}
use Rattle.reg_values.proofs.ValueChanges.ValuesPlanned.{small-each, told-length, each-ok, some-each}
use Rattle.reg_values.proofs.ValueChanges.ValuesMade.{exact-grows, grows-as}
use Rattle.reg_values.proofs.ValueChanges.ValuesExtended.{new-cells, there-kept, room-there, cells-room, list-beside, extended, extend-makes, told-room}
use Rattle.reg_values.proofs.ValueChanges.UnusedOffsets.{kept-unused}
use Rattle.reg_values.proofs.extending.extend_sized.Goals as goal

pub carve-requires-clause-sizes : goal.carve-requires-clause-sizes
carve-requires-clause-sizes c = subst AreSizes (sym c.requires.sizes) (each-ok (all_told c.args.values.now))

pub fill-requires-clause-small : goal.fill-requires-clause-small
fill-requires-clause-small c = small-each (all_told c.args.values.now) c.requires.values.members (c.requires.new _ _ c.requires.values.reads)

pub fill-requires-clause-list : goal.fill-requires-clause-list
fill-requires-clause-list c =
    let h0 = heap_of c.args.arena.now in
    let h1 = heap_of c.carve.new.self in
    let o = c.in_ok-carve.ensures.ok (some-each c.args.values.now c.args.sizes.now c.requires.sizes c.requires.some) in
    let a = new-cells h0 h1 c.args.sizes.now _ c.deref.result.now _ _ o.0 c.requires.sizes c.deref.ensures.value o.1 c.in-Ok.ensures.items o.3.are_new in
    room-there h0 h1 c.deref.result.now _ a c.args.list.offset _ c.requires.room

pub fill-requires-clause-cells : goal.fill-requires-clause-cells
fill-requires-clause-cells c =
    let h0 = heap_of c.args.arena.now in
    let h1 = heap_of c.carve.new.self in
    let o = c.in_ok-carve.ensures.ok (some-each c.args.values.now c.args.sizes.now c.requires.sizes c.requires.some) in
    let a = new-cells h0 h1 c.args.sizes.now _ c.deref.result.now _ _ o.0 c.requires.sizes c.deref.ensures.value o.1 c.in-Ok.ensures.items o.3.are_new in
    cells-room h0 h1 c.deref.result.now _ a

pub fill-requires-clause-apart : goal.fill-requires-clause-apart
fill-requires-clause-apart c =
    let h0 = heap_of c.args.arena.now in
    let h1 = heap_of c.carve.new.self in
    let o = c.in_ok-carve.ensures.ok (some-each c.args.values.now c.args.sizes.now c.requires.sizes c.requires.some) in
    let a = new-cells h0 h1 c.args.sizes.now _ c.deref.result.now _ _ o.0 c.requires.sizes c.deref.ensures.value o.1 c.in-Ok.ensures.items o.3.are_new in
    list-beside h0 h1 c.deref.result.now _ a c.args.list.offset c.requires.room.exists

pub returns-clause-ok : goal.returns-clause-ok
returns-clause-ok c = λ members met e.
    let h0 = heap_of c.args.arena.now in
    let h1 = heap_of c.carve.new.self in
    let h2 = heap_of c.fill.new.arena in
    let n = c.args.list.count in
    let p = c.args.list.offset in
    let values = c.args.values.now in
    let o = c.in_ok-carve.ensures.ok (some-each values c.args.sizes.now c.requires.sizes c.requires.some) in
    let a = new-cells h0 h1 c.args.sizes.now _ c.deref.result.now _ _ o.0 c.requires.sizes c.deref.ensures.value o.1 c.in-Ok.ensures.items o.3.are_new in
    let same = same-read h0 n p c.requires.values members met e in
    let w = subst (AreWritten h0 n p) same.0 c.requires.values.written in
    let once = subst (λ (zs : List Found). (z : ℕ) → owned z zs ≤ allocated h0 z) same.1 c.requires.values.once in
    let t = told-length values in
    let few = c.requires.few in
    subst (λ k. Became h0 h2 met (n + k) p (members ++ all_told values)) t
    (extended h0 h1 h2 n p c.requires.there members met e once w c.deref.result.now _ a c.fill.ensures.fills (all_told values)
    (told-room h0 p n values c.requires.room) c.fill.ensures.stand c.fill.ensures.front (c.requires.new members met e) (omega (arith, t, few)))

pub returns-clause-cells : goal.returns-clause-cells
returns-clause-cells c =
    let h0 = heap_of c.args.arena.now in
    let h1 = heap_of c.carve.new.self in
    let h2 = heap_of c.fill.new.arena in
    let v = c.requires.values in
    let o = c.in_ok-carve.ensures.ok (some-each c.args.values.now c.args.sizes.now c.requires.sizes c.requires.some) in
    let a = new-cells h0 h1 c.args.sizes.now _ c.deref.result.now _ _ o.0 c.requires.sizes c.deref.ensures.value o.1 c.in-Ok.ensures.items o.3.are_new in
    subst (Makes h0 h2) (sym c.requires.sizes)
    (extend-makes h0 h1 h2 c.args.list.count c.args.list.offset c.requires.there v.members v.met v.reads v.once v.written c.deref.result.now _ a
    c.fill.ensures.fills (each-ok (all_told c.args.values.now)))

pub returns-clause-stay : goal.returns-clause-stay
returns-clause-stay c =
    let o = c.in_ok-carve.ensures.ok (some-each c.args.values.now c.args.sizes.now c.requires.sizes c.requires.some) in
    new-first (heap_of c.args.arena.now) (heap_of c.carve.new.self) (heap_of c.fill.new.arena) _ o.3.are_new.come (fills-keeps _ _ _ c.fill.ensures.fills)

pub returns-clause-room : goal.returns-clause-room
returns-clause-room c = λ n r.
    let h0 = heap_of c.args.arena.now in
    let h1 = heap_of c.carve.new.self in
    let o = c.in_ok-carve.ensures.ok (some-each c.args.values.now c.args.sizes.now c.requires.sizes c.requires.some) in
    let a = new-cells h0 h1 c.args.sizes.now _ c.deref.result.now _ _ o.0 c.requires.sizes c.deref.ensures.value o.1 c.in-Ok.ensures.items o.3.are_new in
    fills-room h1 (heap_of c.fill.new.arena) _ c.args.list.offset n c.fill.ensures.fills (room-there h0 h1 c.deref.result.now _ a c.args.list.offset n r)

pub returns-clause-unused : goal.returns-clause-unused
returns-clause-unused c = λ unused n l.
    let h0 = heap_of c.args.arena.now in
    let h1 = heap_of c.carve.new.self in
    let o = c.in_ok-carve.ensures.ok (some-each c.args.values.now c.args.sizes.now c.requires.sizes c.requires.some) in
    let a = new-cells h0 h1 c.args.sizes.now _ c.deref.result.now _ _ o.0 c.requires.sizes c.deref.ensures.value o.1 c.in-Ok.ensures.items o.3.are_new in
    let kept = there-kept h0 h1 c.deref.result.now _ a c.args.list.offset c.requires.room.exists in
    c.fill.ensures.behind n (omega (arith, l)) ∙ kept-unused h0 h1 c.args.list.count c.args.list.offset kept unused n (omega (arith, l))

pub returns-clause-growth : goal.returns-clause-growth
returns-clause-growth c =
    let some = some-each c.args.values.now c.args.sizes.now c.requires.sizes c.requires.some in
    let o = c.in_ok-carve.ensures.ok some in
    grows-as _ c.carve.new.self.bytes _ _ c.fill.ensures.long (exact-grows _ _ _ o.0 some o.2)
