use Rattle.std.proofs.Common.{◌+◌, ◌++◌, refl, ap, ◌∙◌, arith, length-drop}
use Rattle.reg_heap.specs.Edits.{values_at}
use Rattle.zugmeled.specs.Lists.{value_bytes, value_row, values_from}
use Rattle.zugmeled.proofs.ItemsTold.{goes-on, no-room, room-long}
use Rattle.zugmeled.proofs.ValueRows.{no_value, value-at, tells-any, told-long}
use Rattle.zugmeled.proofs.lists.tell_values.Goals as goal

pub returns-then-size-room-clause-most : goal.returns-then-size-room-clause-most
returns-then-size-room-clause-most c = λ p at.
    let tree = c.args.tree.now.tree in
    let items = values_from c.args.index tree p in
    let s = c.in-Some.ensures.told p at in
    let t = c.loop-count.invariant p at in
    let size = told-long s.0 _ _ _ s.2 in
    let long = room-long (value_row tree) (value_bytes tree) items c.loop-count.count _ _ _ _ t.0 in
    no-room (value_row tree) (value_bytes tree) items c.loop-count.count no_value s.0 c.args.rows.now c.args.room.now c.loop-count.used t.1
    (value-at c.args.index c.loop-count.count tree p s.0 s.1) (omega (arith, c.if-size-room.true, long, t.0.fits, size))

pub loop-count-preserved : goal.loop-count-preserved
loop-count-preserved c = λ p at.
    let tree = c.args.tree.now.tree in
    let items = values_from c.args.index tree p in
    let s = c.in-Some.ensures.told p at in
    let t = c.loop-count.invariant p at in
    let put = c.put_value.ensures p at in
    let m = put.0 in
    let told = tells-any (values_at tree p) (c.args.index + c.loop-count.count) s.0 m _ _ _ s.1 s.2 put.1 in
    let size = told-long m _ _ _ told in
    let on = goes-on (value_row tree) (value_bytes tree) items c.loop-count.count no_value m c.args.rows.now c.loop-count.rows
    c.args.room.now c.loop-count.room c.put_value.new.room c.loop-count.used c.value_row.result (m.name ++ m.bytes)
    t.0 t.1 (omega (arith, length-drop c.args.index (values_at tree p))) c.if-count-rows.true
    (value-at c.args.index c.loop-count.count tree p m put.1)
    (c.value_row.ensures m told tree) refl (omega (arith, c.if-size-room.false, t.0.fits, t.1, size)) put.2 in
    (on.0, ap (λ n. c.loop-count.used + n) size ∙ on.1)
