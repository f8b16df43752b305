use Rattle.std.proofs.Common.{sym, subst, length, arith, get_or}
use Rattle.reg_arena.specs.Arena.{heap_of}
use Rattle.reg_values.specs.Internal.ValueListParts.{Fills, HoldsData}
use Rattle.reg_values.proofs.ValueData.FilledCells.{fills-none}
use Rattle.reg_values.proofs.ValueData.StoredData.{near-holds, one-fills, one-holds}
use Rattle.reg_values.proofs.ValueData.NewCellRoom.{some-long, one-long, one-room, list-one, big-long, big-cells, big-count, big-once, big-head, big-list, big-room}
use Rattle.reg_values.proofs.data.put_data.Goals as goal

pub returns-then-bytes-le-INLINE_LIMIT-clause-fills : goal.returns-then-bytes-le-INLINE_LIMIT-clause-fills
returns-then-bytes-le-INLINE_LIMIT-clause-fills c = fills-none (heap_of c.args.arena.now) c.args.cells.now

pub returns-then-bytes-le-INLINE_LIMIT-clause-holds : goal.returns-then-bytes-le-INLINE_LIMIT-clause-holds
returns-then-bytes-le-INLINE_LIMIT-clause-holds c =
    near-holds (heap_of c.args.arena.now) c.packed.result c.args.bytes.now c.args.cells.now c.if-bytes-le-INLINE_LIMIT.true c.requires.cells.as_many c.packed.ensures

pub bounds-cells-0 : goal.bounds-cells-0
bounds-cells-0 c = some-long (heap_of c.args.arena.now) c.args.cells.now c.args.bytes.now c.requires.small c.requires.cells c.if-bytes-le-INLINE_LIMIT.false

pub bounds-cells-1 : goal.bounds-cells-1
bounds-cells-1 c = let n = big-long (heap_of c.args.arena.now) c.args.cells.now c.args.bytes.now c.requires.small c.requires.cells c.if-bytes-gt-SEGMENT_SIZE.true in omega (arith, n)

pub slice_bounds-put_big-count : goal.slice_bounds-put_big-count
slice_bounds-put_big-count c = let n = big-long (heap_of c.args.arena.now) c.args.cells.now c.args.bytes.now c.requires.small c.requires.cells c.if-bytes-gt-SEGMENT_SIZE.true in omega (arith, n)

pub put_big-requires-clause-count : goal.put_big-requires-clause-count
put_big-requires-clause-count c = big-count (heap_of c.args.arena.now) c.args.cells.now c.args.bytes.now c.requires.small c.requires.cells c.if-bytes-gt-SEGMENT_SIZE.true

pub put_big-requires-clause-once : goal.put_big-requires-clause-once
put_big-requires-clause-once c = λ z. big-once (heap_of c.args.arena.now) c.args.cells.now c.args.bytes.now c.requires.small c.requires.cells c.if-bytes-gt-SEGMENT_SIZE.true z

pub put_big-requires-clause-head : goal.put_big-requires-clause-head
put_big-requires-clause-head c = big-head (heap_of c.args.arena.now) c.args.cells.now c.args.bytes.now c.requires.small c.requires.cells c.if-bytes-gt-SEGMENT_SIZE.true

pub put_big-requires-clause-list : goal.put_big-requires-clause-list
put_big-requires-clause-list c = big-list (heap_of c.args.arena.now) c.args.cells.now c.args.bytes.now c.requires.small c.requires.cells c.if-bytes-gt-SEGMENT_SIZE.true

pub put_big-requires-clause-room : goal.put_big-requires-clause-room
put_big-requires-clause-room c = λ i l. big-room (heap_of c.args.arena.now) c.args.cells.now c.args.bytes.now c.requires.small c.requires.cells c.if-bytes-gt-SEGMENT_SIZE.true i l

pub returns-then-bytes-gt-SEGMENT_SIZE-clause-fills : goal.returns-then-bytes-gt-SEGMENT_SIZE-clause-fills
returns-then-bytes-gt-SEGMENT_SIZE-clause-fills c =
    let h = heap_of c.args.arena.now in
    let k = heap_of c.put_big.new.arena in
    subst (Fills h k) (sym (big-cells h c.args.cells.now c.args.bytes.now c.requires.small c.requires.cells c.if-bytes-gt-SEGMENT_SIZE.true)) c.put_big.ensures.fills

pub returns-then-bytes-gt-SEGMENT_SIZE-clause-holds : goal.returns-then-bytes-gt-SEGMENT_SIZE-clause-holds
returns-then-bytes-gt-SEGMENT_SIZE-clause-holds c =
    let h = heap_of c.args.arena.now in
    let k = heap_of c.put_big.new.arena in
    subst (HoldsData k (length c.args.bytes.now) (get_or c.args.cells.now 0 0) c.args.bytes.now)
    (sym (big-cells h c.args.cells.now c.args.bytes.now c.requires.small c.requires.cells c.if-bytes-gt-SEGMENT_SIZE.true)) c.put_big.ensures.holds

pub write-requires-clause-exists : goal.write-requires-clause-exists
write-requires-clause-exists c =
    (one-room (heap_of c.args.arena.now) c.args.cells.now c.args.bytes.now c.requires.small c.requires.cells c.if-bytes-le-INLINE_LIMIT.false c.if-bytes-gt-SEGMENT_SIZE.false).exists

pub write-requires-clause-fits : goal.write-requires-clause-fits
write-requires-clause-fits c =
    let r = one-room (heap_of c.args.arena.now) c.args.cells.now c.args.bytes.now c.requires.small c.requires.cells c.if-bytes-le-INLINE_LIMIT.false c.if-bytes-gt-SEGMENT_SIZE.false in
    let e = r.enough in
    omega (arith, e)

pub returns-clause-fills : goal.returns-clause-fills
returns-clause-fills c =
    let h = heap_of c.args.arena.now in
    let k = heap_of c.write.new.self in
    let r = one-room h c.args.cells.now c.args.bytes.now c.requires.small c.requires.cells c.if-bytes-le-INLINE_LIMIT.false c.if-bytes-gt-SEGMENT_SIZE.false in
    let n = one-long h c.args.cells.now c.args.bytes.now c.requires.small c.requires.cells c.if-bytes-le-INLINE_LIMIT.false c.if-bytes-gt-SEGMENT_SIZE.false in
    subst (Fills h k) (sym (list-one c.args.cells.now n))
    (one-fills h k (get_or c.args.cells.now 0 0) c.args.bytes.now c.if-bytes-le-INLINE_LIMIT.false c.if-bytes-gt-SEGMENT_SIZE.false r
    c.write.ensures.written c.write.ensures.writes)

pub returns-clause-holds : goal.returns-clause-holds
returns-clause-holds c =
    let h = heap_of c.args.arena.now in
    let k = heap_of c.write.new.self in
    let r = one-room h c.args.cells.now c.args.bytes.now c.requires.small c.requires.cells c.if-bytes-le-INLINE_LIMIT.false c.if-bytes-gt-SEGMENT_SIZE.false in
    let n = one-long h c.args.cells.now c.args.bytes.now c.requires.small c.requires.cells c.if-bytes-le-INLINE_LIMIT.false c.if-bytes-gt-SEGMENT_SIZE.false in
    subst (HoldsData k (length c.args.bytes.now) (get_or c.args.cells.now 0 0) c.args.bytes.now) (sym (list-one c.args.cells.now n))
    (one-holds h k (get_or c.args.cells.now 0 0) c.args.bytes.now c.if-bytes-le-INLINE_LIMIT.false c.if-bytes-gt-SEGMENT_SIZE.false r
    c.write.ensures.written c.write.ensures.writes)

pub slice_bounds-put_big-start : goal.slice_bounds-put_big-start
slice_bounds-put_big-start c = let n = big-long (heap_of c.args.arena.now) c.args.cells.now c.args.bytes.now c.requires.small c.requires.cells c.if-bytes-gt-SEGMENT_SIZE.true in omega (arith, n)
