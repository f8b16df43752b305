use Rattle.std.proofs.Common.{ℕ, List, ◌++◌, ◌+◌, ◌*◌, ◌≤◌, ◌<◌, ◌∷◌, [], ap, sym, ◌∙◌, subst, arith, refl}
use Rattle.std.proofs.lemmas.Option.{same_Some}
use Rattle.reg_heap.specs.Kinds.{Found, owned, times}
use Rattle.reg_heap.specs.Heaps.{allocated}
use Rattle.reg_arena.specs.Arena.{heap_of}
use Rattle.reg_values.specs.Internal.ValueListParts.{list_at, BecameList}
use Rattle.reg_values.proofs.ValueListing.ValueListFrame.{list-open}
use Rattle.reg_values.proofs.ValueData.FilledCells.{fills-none, fills-cell, fills-room}
use Rattle.reg_values.proofs.ValueChanges.ValueListGrown.{started, copy-fills, copy-here, moved, old-gone}
use Rattle.reg_values.proofs.ValueChanges.UnusedOffsets.{copied-unused, moved-unused, put-unused}
use Rattle.reg_values.specs.ValueLists.{UnusedAreZero}
use Rattle.reg_values.proofs.ValueChanges.KeptSizes.{fills-keeps, fills-first, gives-keeps}
use Rattle.reg_values.proofs.ValueData.NewCellRoom.{room-less}
use Rattle.reg_values.proofs.add.move_list.Goals as goal

pub returns-then-list-eq0-clause-list : goal.returns-then-list-eq0-clause-list
returns-then-list-eq0-clause-list c = λ row met e.
    let h = heap_of c.args.arena.now in
    let z = c.if-list-eq0.true in
    let at = ap (λ n. list_at n c.args.list.offset h) (sym z) ∙ e in
    let r = fills-room h h [] c.args.fresh _ (fills-none h []) c.requires.room in
    let s = started h (heap_of c.put_offset.new.arena) 0 c.args.fresh c.args.cell (fills-cell _ _ c.args.fresh _ c.put_offset.ensures.written)
    (room-less h c.args.fresh _ (4 * 0 + 4) (omega arith) r) c.put_offset.ensures.here c.put_offset.ensures.others c.args.list.offset row met refl
    at in
    subst (λ n. BecameList h (heap_of c.put_offset.new.arena) (λ z. owned z met + times z (c.args.fresh ∷ [])) (n + 1) c.args.fresh (row ++ c.args.cell ∷ [])) (sym z) s

pub returns-then-list-eq0-clause-unused : goal.returns-then-list-eq0-clause-unused
returns-then-list-eq0-clause-unused c =
    subst (λ n. UnusedAreZero (heap_of c.put_offset.new.arena) (n + 1) c.args.fresh) (sym c.if-list-eq0.true)
    (put-unused (heap_of c.args.arena.now) (heap_of c.put_offset.new.arena) 0 c.args.fresh c.put_offset.ensures.others c.requires.zeros)

pub returns-then-list-eq0-clause-sizes : goal.returns-then-list-eq0-clause-sizes
returns-then-list-eq0-clause-sizes c = fills-keeps _ _ _ (fills-cell _ _ c.args.fresh _ c.put_offset.ensures.written)

pub copy-requires-clause-source : goal.copy-requires-clause-source
copy-requires-clause-source c =
    let r = c.requires.owns in
    let n = c.if-list-eq0.false in
    (list-open (heap_of c.args.arena.now) c.args.list.count c.args.list.offset r.result r.met r.reads (omega (arith, n))).here

pub copy-requires-clause-within : goal.copy-requires-clause-within
copy-requires-clause-within c =
    let r = c.requires.owns in
    let n = c.if-list-eq0.false in
    let l = (list-open (heap_of c.args.arena.now) c.args.list.count c.args.list.offset r.result r.met r.reads (omega (arith, n))).long in
    omega (arith, l)

pub put_offset-requires-2 : goal.put_offset-requires-2
put_offset-requires-2 c =
    let h = heap_of c.args.arena.now in
    let k = heap_of c.copy.new.self in
    let r = c.requires.owns in
    let n = c.if-list-eq0.false in
    let f = copy-fills h k c.args.list.count c.args.list.offset c.args.fresh (omega (arith, n)) r.result r.met r.reads c.requires.room c.copy.ensures.written c.copy.ensures.writes in
    record { room = fills-room h k (c.args.fresh ∷ []) c.args.fresh _ f c.requires.room }

pub free-requires : goal.free-requires
free-requires c =
    let h = heap_of c.args.arena.now in
    let k = heap_of c.copy.new.self in
    let r = c.requires.owns in
    let n = c.if-list-eq0.false in
    let p : 0 < c.args.list.count = omega (arith, n) in
    let f1 = copy-fills h k c.args.list.count c.args.list.offset c.args.fresh p r.result r.met r.reads c.requires.room c.copy.ensures.written c.copy.ensures.writes in
    old-gone h k (heap_of c.put_offset-2.new.arena) c.args.list.count c.args.list.offset c.args.fresh p r.result r.met r.reads r.once f1
    (fills-cell _ _ c.args.fresh _ c.put_offset-2.ensures.written)

pub returns-clause-list : goal.returns-clause-list
returns-clause-list c = λ row met e.
    let h = heap_of c.args.arena.now in
    let k = heap_of c.copy.new.self in
    let r = c.requires.owns in
    let n = c.if-list-eq0.false in
    let p : 0 < c.args.list.count = omega (arith, n) in
    let q = ap (λ (p : List ℕ × List Found). p.1) (same_Some _ _ (sym r.reads ∙ e)) in
    let once = subst (λ met. (z : ℕ) → owned z met + times z (c.args.fresh ∷ []) ≤ allocated h z) q r.once in
    let f1 = copy-fills h k c.args.list.count c.args.list.offset c.args.fresh p row met e c.requires.room c.copy.ensures.written c.copy.ensures.writes in
    let c1 = copy-here h k c.args.list.count c.args.list.offset c.args.fresh p row met e c.requires.room c.copy.ensures.written in
    moved h k (heap_of c.put_offset-2.new.arena) (heap_of c.free.new.self) c.args.list.count c.args.list.offset c.args.fresh c.args.cell p row met e once c.requires.room f1 c1
    (fills-cell _ _ c.args.fresh _ c.put_offset-2.ensures.written) c.put_offset-2.ensures.here c.put_offset-2.ensures.others c.free.ensures.gone

pub returns-clause-sizes : goal.returns-clause-sizes
returns-clause-sizes c =
    let h = heap_of c.args.arena.now in
    let k = heap_of c.copy.new.self in
    let r = c.requires.owns in
    let n = c.if-list-eq0.false in
    let p : 0 < c.args.list.count = omega (arith, n) in
    let f1 = copy-fills h k c.args.list.count c.args.list.offset c.args.fresh p r.result r.met r.reads c.requires.room c.copy.ensures.written c.copy.ensures.writes in
    fills-first _ _ _ _ f1 (fills-first _ _ _ _ (fills-cell _ _ c.args.fresh _ c.put_offset-2.ensures.written) (gives-keeps _ _ _ c.free.ensures.gone))

pub returns-clause-unused : goal.returns-clause-unused
returns-clause-unused c =
    let h = heap_of c.args.arena.now in
    let k = heap_of c.copy.new.self in
    let k2 = heap_of c.put_offset-2.new.arena in
    let r = c.requires.owns in
    let n = c.if-list-eq0.false in
    let p : 0 < c.args.list.count = omega (arith, n) in
    let long = (list-open h c.args.list.count c.args.list.offset r.result r.met r.reads p).long in
    let room = c.requires.room.enough in
    let f1 = copy-fills h k c.args.list.count c.args.list.offset c.args.fresh p r.result r.met r.reads c.requires.room c.copy.ensures.written c.copy.ensures.writes in
    let c1 = copy-here h k c.args.list.count c.args.list.offset c.args.fresh p r.result r.met r.reads c.requires.room c.copy.ensures.written in
    moved-unused h k k2 (heap_of c.free.new.self) c.args.list.count c.args.list.offset c.args.fresh p r.result r.met r.reads r.once f1
    (fills-cell _ _ c.args.fresh _ c.put_offset-2.ensures.written) c.free.ensures.gone (c.args.list.count + 1)
    (put-unused k k2 c.args.list.count c.args.fresh c.put_offset-2.ensures.others
    (copied-unused h k c.args.list.count c.args.list.offset c.args.fresh c1 (omega (arith, long)) (omega (arith, room)) c.requires.zeros))
