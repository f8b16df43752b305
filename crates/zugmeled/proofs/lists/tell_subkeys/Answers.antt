use Rattle.std.proofs.Common.{◌+◌, [], length, get_or, ap, arith, length-drop}
use Rattle.reg_heap.specs.Paths.{children_of}
use Rattle.zugmeled.specs.Lists.{key_name, key_row, subkeys_from}
use Rattle.zugmeled.proofs.ItemsTold.{goes-on, no-room, room-long}
use Rattle.zugmeled.proofs.KeyRows.{named, at-index, in-turn, next-turn}
use Rattle.zugmeled.proofs.lists.tell_subkeys.Goals as goal

pub returns-then-name-room-clause-most : goal.returns-then-name-room-clause-most
returns-then-name-room-clause-most c = λ p at.
    let tree = c.args.tree.now.tree in
    let t = c.loop-count.invariant p at in
    let s = in-turn c.args.tree.now p c.args.node (c.args.index + c.loop-count.count) _ c.in-Some.subkey c.in-Some.is t.1 in
    let child = get_or (children_of tree p) (c.args.index + c.loop-count.count) [] in
    let name = named _ c.name-name.result.now (c.name-name.ensures.key child s.at) (c.name-name.ensures.told child s.at) in
    let long = room-long (key_row tree) (key_name tree) (subkeys_from c.args.index tree p) c.loop-count.count _ _ _ _ t.0 in
    let short = c.if-name-room.true in
    no-room (key_row tree) (key_name tree) (subkeys_from c.args.index tree p) c.loop-count.count [] child c.args.rows.now c.args.room.now c.loop-count.used
    t.2 (at-index c.args.index c.loop-count.count tree p) (omega (arith, short, long, t.0.fits, ap length name))

pub loop-count-preserved : goal.loop-count-preserved
loop-count-preserved c = λ p at.
    let tree = c.args.tree.now.tree in
    let t = c.loop-count.invariant p at in
    let s = in-turn c.args.tree.now p c.args.node (c.args.index + c.loop-count.count) _ c.in-Some.subkey c.in-Some.is t.1 in
    let child = get_or (children_of tree p) (c.args.index + c.loop-count.count) [] in
    let name = named _ c.name-name.result.now (c.name-name.ensures.key child s.at) (c.name-name.ensures.told child s.at) in
    let short = c.if-name-room.false in
    let on = goes-on (key_row tree) (key_name tree) (subkeys_from c.args.index tree p) c.loop-count.count [] child c.args.rows.now c.loop-count.rows
    c.args.room.now c.loop-count.room c.fill_at.new.room c.loop-count.used c.subkey_row.result c.name-name.result.now
    t.0 t.2 (omega (arith, s.within, length-drop c.args.index (children_of tree p))) c.if-count-rows.true (at-index c.args.index c.loop-count.count tree p)
    (c.subkey_row.ensures child s.at) name (omega (arith, short, t.0.fits, t.2)) c.fill_at.ensures in (
      on.0,
      next-turn c.args.tree.now p c.args.node c.args.index c.loop-count.count c.next_subkey-next.result
          (c.next_subkey-next.ensures p at (c.args.index + c.loop-count.count) s),
      on.1,
    )
