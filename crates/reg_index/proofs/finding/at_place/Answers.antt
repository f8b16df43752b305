use Rattle.std.proofs.Common.{arith}
use Rattle.reg_arena.specs.Arena.{heap_of}
use Rattle.reg_shape.specs.Nodes.{lists_of}
use Rattle.reg_index.proofs.ListPlaces.{list-stands}
use Rattle.reg_index.proofs.ListsRead.{list-there, lists-head}
use Rattle.reg_index.proofs.SubkeysBehind.{place-stands, few-there, here-is}
use Rattle.reg_index.proofs.SubkeysOpening.{lists-has}
use Rattle.reg_index.proofs.finding.at_place.Goals as goal

pub content-requires : goal.content-requires
content-requires c =
    let s = c.requires.subkeys.1 in
    let p = place-stands (heap_of c.args.arena.now) c.args.list.count c.args.list.offset c.args.place c.requires.place c.requires.subkeys.0 s in
    let l = lists-head (heap_of c.args.arena.now) c.args.list.offset (lists_of s.index) (lists-has _ _ _ _ s) (omega (arith, p.0)) in
    list-there (heap_of c.args.arena.now) c.args.list.offset l.0 l.1

pub leaf_under-leaf-requires : goal.leaf_under-leaf-requires
leaf_under-leaf-requires c =
    let s = c.requires.subkeys.1 in
    let p = place-stands (heap_of c.args.arena.now) c.args.list.count c.args.list.offset c.args.place c.requires.place c.requires.subkeys.0 s in
    (c.args.list.offset, lists_of s.index, lists-has _ _ _ _ s, c.content.ensures, p.0)

pub offset_in-requires-clause-leaf : goal.offset_in-requires-clause-leaf
offset_in-requires-clause-leaf c =
    let s = c.requires.subkeys.1 in
    let h = lists-has _ _ _ _ s in
    let p = place-stands (heap_of c.args.arena.now) c.args.list.count c.args.list.offset c.args.place c.requires.place c.requires.subkeys.0 s in
    let leaf = (list-stands (heap_of c.args.arena.now) c.args.list.offset (lists_of s.index) c.args.place.list h p.0).leaf in
    (heap_of c.args.arena.now, _, _, leaf, c.leaf_under-leaf.ensures c.args.list.offset (lists_of s.index) h c.content.ensures p.0, p.1)

pub offset_in-requires-clause-few : goal.offset_in-requires-clause-few
offset_in-requires-clause-few c =
    few-there (heap_of c.args.arena.now) c.args.list.count c.args.list.offset c.args.place c.requires.place c.requires.subkeys.0 c.requires.subkeys.1

pub returns : goal.returns
returns c = λ entries s.
    let h = lists-has _ _ _ _ s in
    let p = place-stands (heap_of c.args.arena.now) c.args.list.count c.args.list.offset c.args.place c.requires.place entries s in
    here-is (heap_of c.args.arena.now) c.args.list.count c.args.list.offset c.args.place c.requires.place entries s c.offset_in.result
    (c.offset_in.ensures (heap_of c.args.arena.now) _ _ (list-stands (heap_of c.args.arena.now) c.args.list.offset (lists_of s.index) c.args.place.list h p.0).leaf
    (c.leaf_under-leaf.ensures c.args.list.offset (lists_of s.index) h c.content.ensures p.0) p.1)
