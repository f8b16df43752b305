use Rattle.std.proofs.Common.{◌+◌, ◌<◌, length, arith}
use Rattle.reg_index.specs.Subkeys.{numbered}
use Rattle.reg_arena.specs.Arena.{heap_of}
use Rattle.reg_shape.specs.Nodes.{lists_of}
use Rattle.reg_index.proofs.ListPlaces.{list-stands}
use Rattle.reg_index.proofs.ListsRead.{list-there, lists-head}
use Rattle.reg_index.proofs.SubkeysBehind.{place-stands, next-place, here-is}
use Rattle.reg_index.proofs.SubkeysOpening.{lists-has}
use Rattle.reg_index.proofs.finding.key_behind.Goals as goal

pub content-requires : goal.content-requires
content-requires c =
    let s = c.requires.subkeys.1 in
    let p = place-stands (heap_of c.args.arena.now) c.args.list.count c.args.list.offset c.args.place c.requires.place c.requires.subkeys.0 s in
    let l = lists-head (heap_of c.args.arena.now) c.args.list.offset (lists_of s.index) (lists-has _ _ _ _ s) (omega (arith, p.0)) in
    list-there (heap_of c.args.arena.now) c.args.list.offset l.0 l.1

pub leaf_under-leaf-requires : goal.leaf_under-leaf-requires
leaf_under-leaf-requires c =
    let s = c.requires.subkeys.1 in
    let p = place-stands (heap_of c.args.arena.now) c.args.list.count c.args.list.offset c.args.place c.requires.place c.requires.subkeys.0 s in
    (c.args.list.offset, lists_of s.index, lists-has _ _ _ _ s, c.content.ensures, p.0)

pub count_in-requires : goal.count_in-requires
count_in-requires c =
    let s = c.requires.subkeys.1 in
    let h = lists-has _ _ _ _ s in
    let p = place-stands (heap_of c.args.arena.now) c.args.list.count c.args.list.offset c.args.place c.requires.place c.requires.subkeys.0 s in
    let leaf = (list-stands (heap_of c.args.arena.now) c.args.list.offset (lists_of s.index) c.args.place.list h p.0).leaf in
    (heap_of c.args.arena.now, _, _, leaf, (c.leaf_under-leaf.ensures c.args.list.offset (lists_of s.index) h c.content.ensures p.0))

pub offset_in-requires-clause-leaf : goal.offset_in-requires-clause-leaf
offset_in-requires-clause-leaf c =
    let s = c.requires.subkeys.1 in
    let h = lists-has _ _ _ _ s in
    let p = place-stands (heap_of c.args.arena.now) c.args.list.count c.args.list.offset c.args.place c.requires.place c.requires.subkeys.0 s in
    let leaf = (list-stands (heap_of c.args.arena.now) c.args.list.offset (lists_of s.index) c.args.place.list h p.0).leaf in
    let here = (c.leaf_under-leaf.ensures c.args.list.offset (lists_of s.index) h c.content.ensures p.0) in
    let count = c.count_in.ensures (heap_of c.args.arena.now) _ _ leaf here in
    (heap_of c.args.arena.now, _, _, leaf, here, omega (arith, count, c.if-next-count_in.true))

pub offset_in-requires-clause-few : goal.offset_in-requires-clause-few
offset_in-requires-clause-few c =
    let s = c.requires.subkeys.1 in
    let h = lists-has _ _ _ _ s in
    let p = place-stands (heap_of c.args.arena.now) c.args.list.count c.args.list.offset c.args.place c.requires.place c.requires.subkeys.0 s in
    let stands = (list-stands (heap_of c.args.arena.now) c.args.list.offset (lists_of s.index) c.args.place.list h p.0) in
    let count = c.count_in.ensures (heap_of c.args.arena.now) _ _ stands.leaf (c.leaf_under-leaf.ensures c.args.list.offset (lists_of s.index) h c.content.ensures p.0) in
    omega (arith, count, c.if-next-count_in.true, stands.written.few)

pub returns-then-next-count_in-clause-place : goal.returns-then-next-count_in-clause-place
returns-then-next-count_in-clause-place c = λ entries s.
    let h = lists-has _ _ _ _ s in
    let p = place-stands (heap_of c.args.arena.now) c.args.list.count c.args.list.offset c.args.place c.requires.place entries s in
    let count = c.count_in.ensures (heap_of c.args.arena.now) _ _
    (list-stands (heap_of c.args.arena.now) c.args.list.offset (lists_of s.index) c.args.place.list h p.0).leaf
    (c.leaf_under-leaf.ensures c.args.list.offset (lists_of s.index) h c.content.ensures p.0) in
    next-place (heap_of c.args.arena.now) c.args.list.count c.args.list.offset c.args.place c.requires.place entries s
    (omega (arith, count, c.if-next-count_in.true))

pub returns-then-next-count_in-clause-key : goal.returns-then-next-count_in-clause-key
returns-then-next-count_in-clause-key c = λ entries s.
    let h = lists-has _ _ _ _ s in
    let p = place-stands (heap_of c.args.arena.now) c.args.list.count c.args.list.offset c.args.place c.requires.place entries s in
    let leaf = (list-stands (heap_of c.args.arena.now) c.args.list.offset (lists_of s.index) c.args.place.list h p.0).leaf in
    let here = (c.leaf_under-leaf.ensures c.args.list.offset (lists_of s.index) h c.content.ensures p.0) in
    let count = c.count_in.ensures (heap_of c.args.arena.now) _ _ leaf here in
    let more : c.args.place.index + 1 < length (numbered c.args.place.list (lists_of s.index)).list.entries = omega (arith, count, c.if-next-count_in.true) in
    let next = next-place (heap_of c.args.arena.now) c.args.list.count c.args.list.offset c.args.place c.requires.place entries s more in
    here-is (heap_of c.args.arena.now) c.args.list.count c.args.list.offset _ next.0 entries s c.offset_in.result
    (c.offset_in.ensures (heap_of c.args.arena.now) _ _ leaf here more)
