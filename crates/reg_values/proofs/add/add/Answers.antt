use Rattle.std.proofs.Common.{ℕ, List, ◌+◌, ◌-◌, ◌*◌, ◌≤◌, ◌∷◌, [], ap, sym, ◌∙◌, subst, length, arith, refl, get_or, take, drop}
use Rattle.reg_heap.specs.Paths.{Member}
use Rattle.reg_heap.specs.Heaps.{AreNew, allocated}
use Rattle.reg_heap.specs.Kinds.{Found, owned, times}
use Rattle.reg_arena.specs.Arena.{heap_of}
use Rattle.reg_arena.specs.NewCells.{total_of, AreSizes}
use Rattle.reg_shape.specs.Written.{AreWritten}
use Rattle.reg_values.proofs.ValueListing.FoundValues.{list-there, same-read}
use Rattle.reg_values.proofs.ValueListing.ValueListFrame.{list-open}
use Rattle.reg_values.proofs.ValueData.FilledCells.{fills-room}
use Rattle.reg_values.proofs.ValueData.NewCellRoom.{room-less}
use Rattle.reg_values.proofs.ValueData.CellSizeTotals.{add-ok, add-total, room-least, value-name}
use Rattle.reg_values.proofs.ValueChanges.KeptSizes.{fills-first, new-first}
use Rattle.reg_values.proofs.ValueChanges.ValueAdded.{was, list2, owns2, beside2, added, add-makes, new-all, one-rooms, one-parts, two-long, two-rooms, two-list, two-parts, room-sizes}
use Rattle.reg_values.proofs.ValueChanges.UnusedOffsets.{fresh-unused}
use Rattle.reg_values.proofs.ValueChanges.ValueAdded.{full-sizes, list-space, some-count, became-as}
use Rattle.reg_values.proofs.add.add.Goals as goal

pub plan_add-requires-clause-list : goal.plan_add-requires-clause-list
plan_add-requires-clause-list c = λ l. list-there (heap_of c.args.arena.now) c.args.list.count c.args.list.offset c.requires.values l

pub has_room-room-requires-clause-list : goal.has_room-room-requires-clause-list
has_room-room-requires-clause-list c = λ l. list-there (heap_of c.args.arena.now) c.args.list.count c.args.list.offset c.requires.values l

pub carve-requires-clause-sizes : goal.carve-requires-clause-sizes
carve-requires-clause-sizes c =
    subst AreSizes (sym (c.deref.ensures.value ∙ c.in-Ok.ensures)) (add-ok (heap_of c.args.arena.now) c.args.list.count c.args.list.offset (length c.args.name.now) (length c.args.bytes.now))

pub carve-requires-clause-total : goal.carve-requires-clause-total
carve-requires-clause-total c =
    let f = c.requires.few in
    let t = add-total (heap_of c.args.arena.now) c.args.list.count c.args.list.offset (length c.args.name.now) (length c.args.bytes.now)
    (omega (arith, f)) (value-name c.args.name.now c.requires.name) c.requires.bytes in
    subst (λ sizes. total_of sizes ≤ 1306592) (sym (c.deref.ensures.value ∙ c.in-Ok.ensures)) t

pub put_value-requires-clause-cells : goal.put_value-requires-clause-cells
put_value-requires-clause-cells c =
    let h0 = heap_of c.args.arena.now in
    let h1 = heap_of c.carve.new.arena in
    let n = c.args.list.count in
    let p = c.args.list.offset in
    let all = c.as_slice-all.result.now in
    let a = new-all h0 h1 c.in_ok-cells.cells.items all c.deref.result.now _ c.in_ok-cells.ensures.ok c.as_slice-all.ensures.value (c.deref.ensures.value ∙ c.in-Ok.ensures) in
    let a1 = subst (AreNew h0 h1 all) (room-sizes h0 n p (length c.args.name.now) (length c.args.bytes.now) (sym c.has_room-room.ensures ∙ c.if-room.true)) a in
    one-rooms h0 h1 all _ _ a1

pub grow-requires-clause-owns : goal.grow-requires-clause-owns
grow-requires-clause-owns c =
    let h0 = heap_of c.args.arena.now in
    let h1 = heap_of c.carve.new.arena in
    let n = c.args.list.count in
    let p = c.args.list.offset in
    let all = c.as_slice-all.result.now in
    let a = new-all h0 h1 c.in_ok-cells.cells.items all c.deref.result.now _ c.in_ok-cells.ensures.ok c.as_slice-all.ensures.value (c.deref.ensures.value ∙ c.in-Ok.ensures) in
    let a1 = subst (AreNew h0 h1 all) (room-sizes h0 n p (length c.args.name.now) (length c.args.bytes.now) (sym c.has_room-room.ensures ∙ c.if-room.true)) a in
    let v = c.requires.values in
    owns2 h0 h1 (heap_of c.put_value.new.arena) n p v.members v.met v.reads v.once v.written all [] (take (length all - 1) (drop 1 all))
    (get_or all 0 0) (one-parts h0 h1 all _ _ a1) a.come c.put_value.ensures.fills

pub grow-requires-clause-some : goal.grow-requires-clause-some
grow-requires-clause-some c = some-count (heap_of c.args.arena.now) c.args.list.count c.args.list.offset (sym c.has_room-room.ensures ∙ c.if-room.true)

pub grow-requires-clause-room : goal.grow-requires-clause-room
grow-requires-clause-room c =
    let h0 = heap_of c.args.arena.now in
    let h1 = heap_of c.carve.new.arena in
    let n = c.args.list.count in
    let p = c.args.list.offset in
    let all = c.as_slice-all.result.now in
    let a = new-all h0 h1 c.in_ok-cells.cells.items all c.deref.result.now _ c.in_ok-cells.ensures.ok c.as_slice-all.ensures.value (c.deref.ensures.value ∙ c.in-Ok.ensures) in
    let a1 = subst (AreNew h0 h1 all) (room-sizes h0 n p (length c.args.name.now) (length c.args.bytes.now) (sym c.has_room-room.ensures ∙ c.if-room.true)) a in
    let r = sym c.has_room-room.ensures ∙ c.if-room.true in
    list-space h0 h1 (heap_of c.put_value.new.arena) n p _ all r (list-there h0 n p c.requires.values (some-count h0 n p r)) a.come c.put_value.ensures.fills

pub returns-then-room-clause-ok : goal.returns-then-room-clause-ok
returns-then-room-clause-ok c = λ members met e.
    let h0 = heap_of c.args.arena.now in
    let h1 = heap_of c.carve.new.arena in
    let n = c.args.list.count in
    let p = c.args.list.offset in
    let all = c.as_slice-all.result.now in
    let a = new-all h0 h1 c.in_ok-cells.cells.items all c.deref.result.now _ c.in_ok-cells.ensures.ok c.as_slice-all.ensures.value (c.deref.ensures.value ∙ c.in-Ok.ensures) in
    let a1 = subst (AreNew h0 h1 all) (room-sizes h0 n p (length c.args.name.now) (length c.args.bytes.now) (sym c.has_room-room.ensures ∙ c.if-room.true)) a in
    let same = same-read h0 n p c.requires.values members met e in
    let w = subst (AreWritten h0 n p) same.0 c.requires.values.written in
    let once = subst (λ (zs : List Found). (z : ℕ) → owned z zs ≤ allocated h0 z) same.1 c.requires.values.once in
    let member : Member = record { name = c.args.name.now; kind = c.args.kind; bytes = c.args.bytes.now } in
    let h2 = heap_of c.put_value.new.arena in
    let h3 = heap_of c.grow.new.arena in
    let o = was h0 h1 (heap_of c.put_value.new.arena) n p members met e once w all [] (take (length all - 1) (drop 1 all)) (get_or all 0 0)
    (one-parts h0 h1 all _ _ a1) a.come c.put_value.ensures.fills in
    let l = list2 h0 h1 (heap_of c.put_value.new.arena) n p members met e once w all [] (take (length all - 1) (drop 1 all)) (get_or all 0 0)
    (one-parts h0 h1 all _ _ a1) a.come c.put_value.ensures.fills in
    let t = became-as h2 h3 _ (λ z. owned z o.list_met + times z []) (n + 1) p _ (λ z. omega arith) (c.grow.ensures.list o.row o.list_met l) in
    added h0 h1 (heap_of c.put_value.new.arena) n p members met e once w all [] (take (length all - 1) (drop 1 all)) (get_or all 0 0)
    (one-parts h0 h1 all _ _ a1) a.come c.put_value.ensures.fills h3 (n + 1) p t member c.put_value.ensures.holds
    (sym (c.requires.new members met e)) refl c.requires.few c.requires.name c.requires.bytes

pub returns-then-room-clause-cells : goal.returns-then-room-clause-cells
returns-then-room-clause-cells c =
    let h0 = heap_of c.args.arena.now in
    let h1 = heap_of c.carve.new.arena in
    let n = c.args.list.count in
    let p = c.args.list.offset in
    let all = c.as_slice-all.result.now in
    let a = new-all h0 h1 c.in_ok-cells.cells.items all c.deref.result.now _ c.in_ok-cells.ensures.ok c.as_slice-all.ensures.value (c.deref.ensures.value ∙ c.in-Ok.ensures) in
    let a1 = subst (AreNew h0 h1 all) (room-sizes h0 n p (length c.args.name.now) (length c.args.bytes.now) (sym c.has_room-room.ensures ∙ c.if-room.true)) a in
    let v = c.requires.values in
    let member : Member = record { name = c.args.name.now; kind = c.args.kind; bytes = c.args.bytes.now } in
    let h2 = heap_of c.put_value.new.arena in
    let h3 = heap_of c.grow.new.arena in
    let o = was h0 h1 (heap_of c.put_value.new.arena) n p v.members v.met v.reads v.once v.written all [] (take (length all - 1) (drop 1 all))
    (get_or all 0 0) (one-parts h0 h1 all _ _ a1) a.come c.put_value.ensures.fills in
    let l = list2 h0 h1 (heap_of c.put_value.new.arena) n p v.members v.met v.reads v.once v.written all []
    (take (length all - 1) (drop 1 all)) (get_or all 0 0) (one-parts h0 h1 all _ _ a1) a.come c.put_value.ensures.fills in
    let t = became-as h2 h3 _ (λ z. owned z o.list_met + times z []) (n + 1) p _ (λ z. omega arith) (c.grow.ensures.list o.row o.list_met l) in
    let m = (list-open h0 n p o.row o.list_met o.list_is (some-count h0 n p (sym c.has_room-room.ensures ∙ c.if-room.true))).met_is in
    add-makes h0 h1 (heap_of c.put_value.new.arena) n p v.members v.met v.reads v.once v.written all [] (take (length all - 1) (drop 1 all))
    (get_or all 0 0) (one-parts h0 h1 all _ _ a1) a.come c.put_value.ensures.fills h3 (n + 1) p t member c.put_value.ensures.holds _ a
    (add-ok h0 n p (length c.args.name.now) (length c.args.bytes.now)) c.grow.ensures.sizes (omega arith)
    (λ z. let q = ap (owned z) m in omega (arith, q)) (λ z. omega arith)

pub bounds-all-1 : goal.bounds-all-1
bounds-all-1 c =
    let h0 = heap_of c.args.arena.now in
    let h1 = heap_of c.carve.new.arena in
    let n = c.args.list.count in
    let p = c.args.list.offset in
    let all = c.as_slice-all.result.now in
    let a = new-all h0 h1 c.in_ok-cells.cells.items all c.deref.result.now _ c.in_ok-cells.ensures.ok c.as_slice-all.ensures.value (c.deref.ensures.value ∙ c.in-Ok.ensures) in
    let a1 = subst (AreNew h0 h1 all) (full-sizes h0 n p (length c.args.name.now) (length c.args.bytes.now) (sym c.has_room-room.ensures ∙ c.if-room.false)) a in
    let l = two-long h0 h1 all _ _ _ a1 in
    omega (arith, l)

pub slice_bounds-put_value-count-2 : goal.slice_bounds-put_value-count-2
slice_bounds-put_value-count-2 c =
    let h0 = heap_of c.args.arena.now in
    let h1 = heap_of c.carve.new.arena in
    let n = c.args.list.count in
    let p = c.args.list.offset in
    let all = c.as_slice-all.result.now in
    let a = new-all h0 h1 c.in_ok-cells.cells.items all c.deref.result.now _ c.in_ok-cells.ensures.ok c.as_slice-all.ensures.value (c.deref.ensures.value ∙ c.in-Ok.ensures) in
    let a1 = subst (AreNew h0 h1 all) (full-sizes h0 n p (length c.args.name.now) (length c.args.bytes.now) (sym c.has_room-room.ensures ∙ c.if-room.false)) a in
    two-long h0 h1 all _ _ _ a1

pub slice_bounds-put_value-start-2 : goal.slice_bounds-put_value-start-2
slice_bounds-put_value-start-2 c =
    let h0 = heap_of c.args.arena.now in
    let h1 = heap_of c.carve.new.arena in
    let n = c.args.list.count in
    let p = c.args.list.offset in
    let all = c.as_slice-all.result.now in
    let a = new-all h0 h1 c.in_ok-cells.cells.items all c.deref.result.now _ c.in_ok-cells.ensures.ok c.as_slice-all.ensures.value (c.deref.ensures.value ∙ c.in-Ok.ensures) in
    let a1 = subst (AreNew h0 h1 all) (full-sizes h0 n p (length c.args.name.now) (length c.args.bytes.now) (sym c.has_room-room.ensures ∙ c.if-room.false)) a in
    two-long h0 h1 all _ _ _ a1

pub put_value-requires-2-clause-cells : goal.put_value-requires-2-clause-cells
put_value-requires-2-clause-cells c =
    let h0 = heap_of c.args.arena.now in
    let h1 = heap_of c.carve.new.arena in
    let n = c.args.list.count in
    let p = c.args.list.offset in
    let all = c.as_slice-all.result.now in
    let a = new-all h0 h1 c.in_ok-cells.cells.items all c.deref.result.now _ c.in_ok-cells.ensures.ok c.as_slice-all.ensures.value (c.deref.ensures.value ∙ c.in-Ok.ensures) in
    let a1 = subst (AreNew h0 h1 all) (full-sizes h0 n p (length c.args.name.now) (length c.args.bytes.now) (sym c.has_room-room.ensures ∙ c.if-room.false)) a in
    two-rooms h0 h1 all _ _ _ a1

pub move_list-requires-clause-owns : goal.move_list-requires-clause-owns
move_list-requires-clause-owns c =
    let h0 = heap_of c.args.arena.now in
    let h1 = heap_of c.carve.new.arena in
    let n = c.args.list.count in
    let p = c.args.list.offset in
    let all = c.as_slice-all.result.now in
    let a = new-all h0 h1 c.in_ok-cells.cells.items all c.deref.result.now _ c.in_ok-cells.ensures.ok c.as_slice-all.ensures.value (c.deref.ensures.value ∙ c.in-Ok.ensures) in
    let a1 = subst (AreNew h0 h1 all) (full-sizes h0 n p (length c.args.name.now) (length c.args.bytes.now) (sym c.has_room-room.ensures ∙ c.if-room.false)) a in
    let v = c.requires.values in
    beside2 h0 h1 (heap_of c.put_value-2.new.arena) n p v.members v.met v.reads v.once v.written all (get_or all 1 0 ∷ [])
    (take (length all - 2) (drop 2 all)) (get_or all 0 0) (two-parts h0 h1 all _ _ _ a1) a.come c.put_value-2.ensures.fills

pub move_list-requires-clause-room : goal.move_list-requires-clause-room
move_list-requires-clause-room c =
    let h0 = heap_of c.args.arena.now in
    let h1 = heap_of c.carve.new.arena in
    let n = c.args.list.count in
    let p = c.args.list.offset in
    let all = c.as_slice-all.result.now in
    let a = new-all h0 h1 c.in_ok-cells.cells.items all c.deref.result.now _ c.in_ok-cells.ensures.ok c.as_slice-all.ensures.value (c.deref.ensures.value ∙ c.in-Ok.ensures) in
    let a1 = subst (AreNew h0 h1 all) (full-sizes h0 n p (length c.args.name.now) (length c.args.bytes.now) (sym c.has_room-room.ensures ∙ c.if-room.false)) a in
    fills-room h1 (heap_of c.put_value-2.new.arena) _ (get_or all 1 0) _ c.put_value-2.ensures.fills (room-less h1 (get_or all 1 0) _ (4 * n + 4) (let f = c.requires.few in let r = room-least (n + 1) (omega (arith, f)) in omega (arith, r)) (two-list h0 h1 all _ _ _ a1))

pub returns-clause-ok : goal.returns-clause-ok
returns-clause-ok c = λ members met e.
    let h0 = heap_of c.args.arena.now in
    let h1 = heap_of c.carve.new.arena in
    let n = c.args.list.count in
    let p = c.args.list.offset in
    let all = c.as_slice-all.result.now in
    let a = new-all h0 h1 c.in_ok-cells.cells.items all c.deref.result.now _ c.in_ok-cells.ensures.ok c.as_slice-all.ensures.value (c.deref.ensures.value ∙ c.in-Ok.ensures) in
    let a1 = subst (AreNew h0 h1 all) (full-sizes h0 n p (length c.args.name.now) (length c.args.bytes.now) (sym c.has_room-room.ensures ∙ c.if-room.false)) a in
    let same = same-read h0 n p c.requires.values members met e in
    let w = subst (AreWritten h0 n p) same.0 c.requires.values.written in
    let once = subst (λ (zs : List Found). (z : ℕ) → owned z zs ≤ allocated h0 z) same.1 c.requires.values.once in
    let member : Member = record { name = c.args.name.now; kind = c.args.kind; bytes = c.args.bytes.now } in
    let o = was h0 h1 (heap_of c.put_value-2.new.arena) n p members met e once w all (get_or all 1 0 ∷ []) (take (length all - 2) (drop 2 all))
    (get_or all 0 0) (two-parts h0 h1 all _ _ _ a1) a.come c.put_value-2.ensures.fills in
    let l = list2 h0 h1 (heap_of c.put_value-2.new.arena) n p members met e once w all (get_or all 1 0 ∷ [])
    (take (length all - 2) (drop 2 all)) (get_or all 0 0) (two-parts h0 h1 all _ _ _ a1) a.come c.put_value-2.ensures.fills in
    added h0 h1 (heap_of c.put_value-2.new.arena) n p members met e once w all (get_or all 1 0 ∷ []) (take (length all - 2) (drop 2 all))
    (get_or all 0 0) (two-parts h0 h1 all _ _ _ a1) a.come c.put_value-2.ensures.fills (heap_of c.move_list.new.arena) (n + 1)
    (get_or all 1 0) (c.move_list.ensures.list o.row o.list_met l) member c.put_value-2.ensures.holds
    (sym (c.requires.new members met e)) refl c.requires.few c.requires.name c.requires.bytes

pub returns-clause-cells : goal.returns-clause-cells
returns-clause-cells c =
    let h0 = heap_of c.args.arena.now in
    let h1 = heap_of c.carve.new.arena in
    let n = c.args.list.count in
    let p = c.args.list.offset in
    let all = c.as_slice-all.result.now in
    let a = new-all h0 h1 c.in_ok-cells.cells.items all c.deref.result.now _ c.in_ok-cells.ensures.ok c.as_slice-all.ensures.value (c.deref.ensures.value ∙ c.in-Ok.ensures) in
    let a1 = subst (AreNew h0 h1 all) (full-sizes h0 n p (length c.args.name.now) (length c.args.bytes.now) (sym c.has_room-room.ensures ∙ c.if-room.false)) a in
    let v = c.requires.values in
    let member : Member = record { name = c.args.name.now; kind = c.args.kind; bytes = c.args.bytes.now } in
    let o = was h0 h1 (heap_of c.put_value-2.new.arena) n p v.members v.met v.reads v.once v.written all (get_or all 1 0 ∷ [])
    (take (length all - 2) (drop 2 all)) (get_or all 0 0) (two-parts h0 h1 all _ _ _ a1) a.come c.put_value-2.ensures.fills in
    let l = list2 h0 h1 (heap_of c.put_value-2.new.arena) n p v.members v.met v.reads v.once v.written all (get_or all 1 0 ∷ [])
    (take (length all - 2) (drop 2 all)) (get_or all 0 0) (two-parts h0 h1 all _ _ _ a1) a.come c.put_value-2.ensures.fills in
    add-makes h0 h1 (heap_of c.put_value-2.new.arena) n p v.members v.met v.reads v.once v.written all (get_or all 1 0 ∷ [])
    (take (length all - 2) (drop 2 all)) (get_or all 0 0) (two-parts h0 h1 all _ _ _ a1) a.come c.put_value-2.ensures.fills
    (heap_of c.move_list.new.arena) (n + 1) (get_or all 1 0) (c.move_list.ensures.list o.row o.list_met l) member c.put_value-2.ensures.holds
    _ a (add-ok h0 n p (length c.args.name.now) (length c.args.bytes.now)) c.move_list.ensures.sizes (omega arith)
    (λ z. omega arith) (λ z. omega arith)

pub returns-then-room-clause-stay : goal.returns-then-room-clause-stay
returns-then-room-clause-stay c =
    let h0 = heap_of c.args.arena.now in
    let h1 = heap_of c.carve.new.arena in
    let h3 = heap_of c.grow.new.arena in
    new-first h0 h1 h3 _ c.in_ok-cells.ensures.ok.come (fills-first h1 (heap_of c.put_value.new.arena) h3 _ c.put_value.ensures.fills c.grow.ensures.sizes)

pub returns-clause-stay : goal.returns-clause-stay
returns-clause-stay c =
    let h0 = heap_of c.args.arena.now in
    let h1 = heap_of c.carve.new.arena in
    let h3 = heap_of c.move_list.new.arena in
    new-first h0 h1 h3 _ c.in_ok-cells.ensures.ok.come (fills-first h1 (heap_of c.put_value-2.new.arena) h3 _ c.put_value-2.ensures.fills c.move_list.ensures.sizes)

pub move_list-requires-clause-zeros : goal.move_list-requires-clause-zeros
move_list-requires-clause-zeros c =
    let h0 = heap_of c.args.arena.now in
    let h1 = heap_of c.carve.new.arena in
    let n = c.args.list.count in
    let p = c.args.list.offset in
    let all = c.as_slice-all.result.now in
    let a = new-all h0 h1 c.in_ok-cells.cells.items all c.deref.result.now _ c.in_ok-cells.ensures.ok c.as_slice-all.ensures.value (c.deref.ensures.value ∙ c.in-Ok.ensures) in
    let a1 = subst (AreNew h0 h1 all) (full-sizes h0 n p (length c.args.name.now) (length c.args.bytes.now) (sym c.has_room-room.ensures ∙ c.if-room.false)) a in
    fresh-unused h0 h1 (heap_of c.put_value-2.new.arena) all _ _ _ a1 c.put_value-2.ensures.fills

pub returns-then-room-clause-unused : goal.returns-then-room-clause-unused
returns-then-room-clause-unused c = λ moved. absurd (moved refl)

pub returns-clause-unused : goal.returns-clause-unused
returns-clause-unused c = λ moved. c.move_list.ensures.unused
