use Rattle.std.proofs.Common.{◌≡◌, ◌+◌, ◌<◌, List, length, take, map, flat_map, ap, subst, ◌∙◌, arith}
use Rattle.std.proofs.lemmas.List.{take_all}
use Rattle.reg_heap.specs.Paths.{Member}
use Rattle.reg_heap.specs.Edits.{values_at}
use Rattle.zugmeled.specs.Lists.{value_bytes, value_row}
use Rattle.zugmeled.specs.Internal.ValuesBehind.{IsPutAt}
use Rattle.zugmeled.proofs.ValueRows.{no_value, tells-any, told-long}
use Rattle.zugmeled.proofs.WithValues.{at-index, next-fits, one-longer, put-none, row-more, bytes-more}
use Rattle.zugmeled.proofs.with_values.tell_all.Goals as goal

pub loop-index-init : goal.loop-index-init
loop-index-init c = (
  omega arith,
  omega (arith, c.values-index-end.ensures c.requires.node.0 c.requires.node.1, (c.requires.place c.requires.node.0 c.requires.node.1).0, c.requires.told.0),
  λ p at. (put-none c.args.told.count c.args.rows.now, put-none c.args.told.used c.args.room.now, omega arith),
)

pub put_value-requires-clause-room : goal.put_value-requires-clause-room
put_value-requires-clause-room c =
    let tree = c.args.tree.now.tree in
    let p = c.requires.node.0 in
    let at = c.requires.node.1 in
    let s = c.in-Some.ensures.told p at in
    let i = (c.loop-index.invariant).2 p at in
    let fits = next-fits tree (values_at tree p) c.loop-index.index s.0 (length c.in-Some.value.name.now + c.in-Some.value.size) c.args.told.used
    c.loop-index.after.used (length c.args.room.now) (omega (arith, c.loop-index-test.true, c.values-index-end.ensures p at))
    (at-index tree (values_at tree p) c.loop-index.index s.0 s.1) (told-long s.0 _ _ _ s.2) i.2 (c.requires.place p at).1 c.requires.told.1 in
    omega (arith, fits, c.loop-index.auto.room)

pub loop-index-preserved : goal.loop-index-preserved
loop-index-preserved c = (
  omega (arith, c.loop-index.invariant.0),
  omega (arith, c.loop-index.invariant.1, c.loop-index-test.true),
  λ p at.
      let tree = c.args.tree.now.tree in
      let values = values_at tree p in
      let s = c.in-Some.ensures.told p at in
      let i = (c.loop-index.invariant).2 p at in
      let put = c.put_value.ensures p at in
      let m = put.0 in
      let told = tells-any values c.loop-index.index s.0 m _ _ _ s.1 s.2 put.1 in
      let size = told-long m _ _ _ told in
      let lt : c.loop-index.index < length values = omega (arith, c.loop-index-test.true, c.values-index-end.ensures p at) in
      let is = at-index tree values c.loop-index.index m put.1 in
      let place = c.requires.place p at in
      let fits = next-fits tree values c.loop-index.index m (length c.in-Some.value.name.now + c.in-Some.value.size) c.args.told.used
      c.loop-index.after.used (length c.args.room.now) lt is size i.2 place.1 c.requires.told.1 in (
        row-more tree values c.loop-index.index m c.args.told.count c.loop-index.after.count c.value_row.result c.args.rows.now c.loop-index.rows lt is
            (c.value_row.ensures m told tree) c.loop-index.invariant.0 (omega (arith, place.0, c.requires.told.0)) c.loop-index.auto.rows i.0,
        bytes-more tree values c.loop-index.index m c.args.told.used c.loop-index.after.used c.args.room.now c.loop-index.room c.put_value.new.room lt is i.2
            (omega (arith, fits)) i.1 put.2,
        omega (arith, i.2, size, one-longer (value_bytes tree) values c.loop-index.index no_value m lt is),
      ),
)

pub returns : goal.returns
returns c = λ p at.
    let tree = c.args.tree.now.tree in
    let values = values_at tree p in
    let i = (c.loop-index.invariant).2 p at in
    let place = c.requires.place p at in
    let all : take c.loop-index.index values ≡ values = take_all c.loop-index.index values (omega (arith, c.loop-index-test.false, c.values-index-end.ensures p at)) in
    let many : c.loop-index.index ≡ length values = omega (arith, c.loop-index-test.false, c.loop-index.auto.index-end, c.values-index-end.ensures p at) in
    let used = i.2 ∙ ap (λ (vs : List Member). c.args.told.used + length (flat_map (value_bytes tree) vs)) all in (
      subst (λ (vs : List Member). IsPutAt c.args.told.count (map (value_row tree) vs) c.args.rows.now c.loop-index.rows) all i.0,
      subst (λ (vs : List Member). IsPutAt c.args.told.used (flat_map (value_bytes tree) vs) c.args.room.now c.loop-index.room) all i.1,
      omega (arith, c.loop-index.invariant.0, many),
      used,
      omega (arith, c.loop-index.invariant.0, many, place.0, c.requires.told.0),
      omega (arith, used, place.1, c.requires.told.1),
    )
