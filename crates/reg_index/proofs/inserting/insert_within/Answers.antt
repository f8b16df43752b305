use Rattle.std.proofs.Common.{◌≤◌, length, arith}
use Rattle.std.proofs.lemmas.List.{length-map}
use Rattle.reg_arena.specs.Arena.{heap_of}
use Rattle.reg_index.specs.Internal.IndexLists.{offsets_of}
use Rattle.reg_index.proofs.EntryAdded.{placed-leaf, root-waits, root-waits-for, one-more-under}
use Rattle.reg_index.proofs.inserting.insert_within.Goals as goal

pub put_over-requires-clause-root : goal.put_over-requires-clause-root
put_over-requires-clause-root c =
    let s = c.requires in
    let r = s.1 in
    let count = c.count_lists-lists.ensures.count s.0 r.lists_are (omega (arith, r.within)) in
    root-waits-for (heap_of c.args.arena.now) (heap_of c.put_in_leaf-leaf.new.arena) c.args.offset c.leaf_at-leaf.result c.put_in_leaf-leaf.result c.args.place c.args.fresh
    c.args.entry s.0 r (omega (arith, count, r.within, c.if-lists-eq1.false)) (c.leaf_at-leaf.ensures s.0 r.lists_are r.within) c.put_in_leaf-leaf.ensures.place
    c.put_in_leaf-leaf.ensures.moves

pub returns-clause-lists : goal.returns-clause-lists
returns-clause-lists c = λ lists r.
    let count = c.count_lists-lists.ensures.count lists r.lists_are (omega (arith, r.within)) in
    let two : 2 ≤ length lists = omega (arith, count, r.within, c.if-lists-eq1.false) in
    let is = c.leaf_at-leaf.ensures lists r.lists_are r.within in
    let root = root-waits (heap_of c.args.arena.now) (heap_of c.put_in_leaf-leaf.new.arena) c.args.offset c.leaf_at-leaf.result c.put_in_leaf-leaf.result c.args.place c.args.fresh
    c.args.entry lists r two is c.put_in_leaf-leaf.ensures.place c.put_in_leaf-leaf.ensures.moves in
    one-more-under (heap_of c.args.arena.now) (heap_of c.put_in_leaf-leaf.new.arena) c.args.offset c.leaf_at-leaf.result c.put_in_leaf-leaf.result c.args.place c.args.fresh
    c.args.entry lists r two is c.put_in_leaf-leaf.ensures.place c.put_in_leaf-leaf.ensures.moves (heap_of c.put_over.new.arena) c.put_over.ensures.writes
    (c.put_in_leaf-leaf.ensures.leaf _ (placed-leaf (heap_of c.args.arena.now) c.args.offset c.leaf_at-leaf.result c.args.place c.args.fresh lists r is) r.index)
    (c.put_over.ensures.root (offsets_of lists) root (omega (arith, length-map lists (λ list. list.offset), r.within)))
