use Rattle.std.proofs.Common.{arith}
use Rattle.reg_arena.specs.Arena.{heap_of}
use Rattle.reg_shape.specs.Nodes.{lists_of}
use Rattle.reg_index.proofs.ListPlaces.{list-stands}
use Rattle.reg_index.proofs.ListsRead.{list-there, lists-head}
use Rattle.reg_index.proofs.SubkeysBehind.{place-stands, next-place, none-behind, first-place}
use Rattle.reg_index.proofs.SubkeysOpening.{lists-has}
use Rattle.reg_index.proofs.finding.place_behind.Goals as goal

pub content-requires : goal.content-requires
content-requires c =
    let s = c.requires.subkeys.1 in
    let p = place-stands (heap_of c.args.arena.now) c.args.list.count c.args.list.offset c.args.place c.requires.place c.requires.subkeys.0 s in
    let l = lists-head (heap_of c.args.arena.now) c.args.list.offset (lists_of s.index) (lists-has _ _ _ _ s) (omega (arith, p.0)) in
    list-there (heap_of c.args.arena.now) c.args.list.offset l.0 l.1

pub leaf_under-leaf-requires : goal.leaf_under-leaf-requires
leaf_under-leaf-requires c =
    let s = c.requires.subkeys.1 in
    let p = place-stands (heap_of c.args.arena.now) c.args.list.count c.args.list.offset c.args.place c.requires.place c.requires.subkeys.0 s in
    (c.args.list.offset, lists_of s.index, lists-has _ _ _ _ s, c.content.ensures, p.0)

pub count_in-requires : goal.count_in-requires
count_in-requires c =
    let s = c.requires.subkeys.1 in
    let h = lists-has _ _ _ _ s in
    let p = place-stands (heap_of c.args.arena.now) c.args.list.count c.args.list.offset c.args.place c.requires.place c.requires.subkeys.0 s in
    let leaf = (list-stands (heap_of c.args.arena.now) c.args.list.offset (lists_of s.index) c.args.place.list h p.0).leaf in
    (heap_of c.args.arena.now, _, _, leaf, c.leaf_under-leaf.ensures c.args.list.offset (lists_of s.index) h c.content.ensures p.0)

pub returns-then-index-count_in : goal.returns-then-index-count_in
returns-then-index-count_in c = λ entries s.
    let h = lists-has _ _ _ _ s in
    let p = place-stands (heap_of c.args.arena.now) c.args.list.count c.args.list.offset c.args.place c.requires.place entries s in
    let leaf = (list-stands (heap_of c.args.arena.now) c.args.list.offset (lists_of s.index) c.args.place.list h p.0).leaf in
    let count = c.count_in.ensures (heap_of c.args.arena.now) _ _ leaf (c.leaf_under-leaf.ensures c.args.list.offset (lists_of s.index) h c.content.ensures p.0) in
    next-place (heap_of c.args.arena.now) c.args.list.count c.args.list.offset c.args.place c.requires.place entries s
    (omega (arith, count, c.if-index-count_in.true))

pub count_lists-lists-requires : goal.count_lists-lists-requires
count_lists-lists-requires c =
    let s = c.requires.subkeys.1 in
    let p = place-stands (heap_of c.args.arena.now) c.args.list.count c.args.list.offset c.args.place c.requires.place c.requires.subkeys.0 s in
    (lists_of s.index, lists-has _ _ _ _ s, omega (arith, p.0))

pub overflow_add-number : goal.overflow_add-number
overflow_add-number c =
    let s = c.requires.subkeys.1 in
    let h = lists-has _ _ _ _ s in
    let p = place-stands (heap_of c.args.arena.now) c.args.list.count c.args.list.offset c.args.place c.requires.place c.requires.subkeys.0 s in
    omega (arith, p.0, c.count_lists-lists.ensures.count (lists_of s.index) h (omega (arith, p.0)), c.count_lists-lists.ensures.fits)

pub returns-then-number-lists : goal.returns-then-number-lists
returns-then-number-lists c = λ entries s.
    let h = lists-has _ _ _ _ s in
    let p = place-stands (heap_of c.args.arena.now) c.args.list.count c.args.list.offset c.args.place c.requires.place entries s in
    let leaf = (list-stands (heap_of c.args.arena.now) c.args.list.offset (lists_of s.index) c.args.place.list h p.0).leaf in
    let count = c.count_in.ensures (heap_of c.args.arena.now) _ _ leaf (c.leaf_under-leaf.ensures c.args.list.offset (lists_of s.index) h c.content.ensures p.0) in
    first-place (heap_of c.args.arena.now) c.args.list.count c.args.list.offset c.args.place c.requires.place entries s
    (omega (arith, count, c.if-index-count_in.false))
    (omega (arith, c.count_lists-lists.ensures.count (lists_of s.index) h (omega (arith, p.0)), c.if-number-lists.true))

pub returns : goal.returns
returns c = λ entries s.
    let h = lists-has _ _ _ _ s in
    let p = place-stands (heap_of c.args.arena.now) c.args.list.count c.args.list.offset c.args.place c.requires.place entries s in
    let leaf = (list-stands (heap_of c.args.arena.now) c.args.list.offset (lists_of s.index) c.args.place.list h p.0).leaf in
    let count = c.count_in.ensures (heap_of c.args.arena.now) _ _ leaf (c.leaf_under-leaf.ensures c.args.list.offset (lists_of s.index) h c.content.ensures p.0) in
    none-behind (heap_of c.args.arena.now) c.args.list.count c.args.list.offset c.args.place c.requires.place entries s (omega (arith, count, c.if-index-count_in.false))
    (omega (arith, c.count_lists-lists.ensures.count (lists_of s.index) h (omega (arith, p.0)), c.if-number-lists.false))
