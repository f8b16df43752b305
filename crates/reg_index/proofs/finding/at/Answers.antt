use Rattle.std.proofs.Common.{arith}
use Rattle.reg_arena.specs.Arena.{heap_of}
use Rattle.reg_shape.specs.Nodes.{lists_of}
use Rattle.reg_index.proofs.ListPlaces.{list-stands}
use Rattle.reg_index.proofs.ListsRead.{list-there, lists-head}
use Rattle.reg_index.proofs.SubkeysOpening.{lists-has, lists-long, subkey-at}
use Rattle.reg_index.proofs.finding.at.Goals as goal

pub place_of-place-requires : goal.place_of-place-requires
place_of-place-requires c =
    let s = c.requires.subkeys.1 in
    (lists_of s.index, lists-has _ _ _ _ s, lists-long _ _ _ _ s c.args.index c.requires.index)

pub content-requires : goal.content-requires
content-requires c =
    let s = c.requires.subkeys.1 in
    let h = lists-has _ _ _ _ s in
    let p = c.place_of-place.ensures (lists_of s.index) h (lists-long _ _ _ _ s c.args.index c.requires.index) in
    let l = lists-head (heap_of c.args.arena.now) c.args.list.offset (lists_of s.index) h (omega (arith, p.0.0)) in
    list-there (heap_of c.args.arena.now) c.args.list.offset l.0 l.1

pub leaf_under-row-requires : goal.leaf_under-row-requires
leaf_under-row-requires c =
    let s = c.requires.subkeys.1 in
    let h = lists-has _ _ _ _ s in
    let p = c.place_of-place.ensures (lists_of s.index) h (lists-long _ _ _ _ s c.args.index c.requires.index) in
    (c.args.list.offset, lists_of s.index, h, c.content.ensures, p.0.0)

pub offset_in-requires-clause-leaf : goal.offset_in-requires-clause-leaf
offset_in-requires-clause-leaf c =
    let s = c.requires.subkeys.1 in
    let h = lists-has _ _ _ _ s in
    let p = c.place_of-place.ensures (lists_of s.index) h (lists-long _ _ _ _ s c.args.index c.requires.index) in (
      heap_of c.args.arena.now,
      _,
      _,
      (list-stands (heap_of c.args.arena.now) c.args.list.offset (lists_of s.index) c.place_of-place.result.list h p.0.0).leaf,
      c.leaf_under-row.ensures c.args.list.offset (lists_of s.index) h c.content.ensures p.0.0,
      p.0.1,
    )

pub offset_in-requires-clause-few : goal.offset_in-requires-clause-few
offset_in-requires-clause-few c =
    let s = c.requires.subkeys.1 in
    let h = lists-has _ _ _ _ s in
    let p = c.place_of-place.ensures (lists_of s.index) h (lists-long _ _ _ _ s c.args.index c.requires.index) in
    omega (arith, p.0.1, (list-stands (heap_of c.args.arena.now) c.args.list.offset (lists_of s.index) c.place_of-place.result.list h p.0.0).written.few)

pub returns : goal.returns
returns c = λ entries s.
    let h = lists-has _ _ _ _ s in
    let p = c.place_of-place.ensures (lists_of s.index) h (lists-long _ _ _ _ s c.args.index c.requires.index) in
    subkey-at (heap_of c.args.arena.now) c.args.list.count c.args.list.offset entries s c.args.index c.place_of-place.result c.offset_in.result p.0 p.1
    (c.offset_in.ensures (heap_of c.args.arena.now) _ _ (list-stands (heap_of c.args.arena.now) c.args.list.offset (lists_of s.index) c.place_of-place.result.list h p.0.0).leaf
    (c.leaf_under-row.ensures c.args.list.offset (lists_of s.index) h c.content.ensures p.0.0) p.0.1)
