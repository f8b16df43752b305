use Rattle.std.proofs.Common.{◌-◌, ◌≡◌, ◌≤◌, length, arith}
use Rattle.std.proofs.lemmas.List.{length-map}
use Rattle.reg_arena.specs.Arena.{heap_of}
use Rattle.reg_index.specs.Internal.IndexLists.{offsets_of}
use Rattle.reg_index.specs.Lengthening.{last_of}
use Rattle.reg_index.proofs.LastMoved.{cell-apart, last-entries, last-under, root-waits, root-waits-for}
use Rattle.reg_index.proofs.lengthening.move_last.Goals as goal

pub move_leaf-requires-clause-apart : goal.move_leaf-requires-clause-apart
move_leaf-requires-clause-apart c =
    let r = c.requires.1 in
    let number : c.count_lists-lists.result - 1 ≡ length c.requires.0 - 1 = omega (arith, c.count_lists-lists.ensures.count c.requires.0 r.lists_are r.some) in
    cell-apart (heap_of c.args.arena.now) c.args.offset c.leaf_at-leaf.result c.args.cell (c.count_lists-lists.result - 1) c.requires.0 r number
    (c.leaf_at-leaf.ensures c.requires.0 r.lists_are (omega (arith, number, r.some)))

pub put_over-requires-clause-root : goal.put_over-requires-clause-root
put_over-requires-clause-root c =
    let r = c.requires.1 in
    let count = c.count_lists-lists.ensures.count c.requires.0 r.lists_are r.some in
    let number : c.count_lists-lists.result - 1 ≡ length c.requires.0 - 1 = omega (arith, count) in
    root-waits-for (heap_of c.args.arena.now) c.args.offset c.leaf_at-leaf.result c.args.cell (c.count_lists-lists.result - 1) c.requires.0 r number
    (c.leaf_at-leaf.ensures c.requires.0 r.lists_are (omega (arith, number, r.some)))
    (heap_of c.move_leaf.new.arena) (omega (arith, count, r.some, c.if-lists-eq1.false)) c.move_leaf.ensures.moves

pub returns-clause-lists : goal.returns-clause-lists
returns-clause-lists c = λ lists r.
    let count = c.count_lists-lists.ensures.count lists r.lists_are r.some in
    let two : 2 ≤ length lists = omega (arith, count, r.some, c.if-lists-eq1.false) in
    let number : c.count_lists-lists.result - 1 ≡ length lists - 1 = omega (arith, count) in
    let is = c.leaf_at-leaf.ensures lists r.lists_are (omega (arith, number, r.some)) in
    let root = root-waits (heap_of c.args.arena.now) c.args.offset c.leaf_at-leaf.result c.args.cell (c.count_lists-lists.result - 1) lists r number is
    (heap_of c.move_leaf.new.arena) two c.move_leaf.ensures.moves in
    last-under (heap_of c.args.arena.now) c.args.offset c.leaf_at-leaf.result c.args.cell (c.count_lists-lists.result - 1) lists r number is
    (heap_of c.move_leaf.new.arena) two c.move_leaf.ensures.moves (heap_of c.put_over.new.arena) c.put_over.ensures.writes
    (c.move_leaf.ensures.leaf (last_of lists).list.entries (last-entries (heap_of c.args.arena.now) c.args.offset c.leaf_at-leaf.result c.args.cell (c.count_lists-lists.result - 1) lists r number is))
    (c.put_over.ensures.root (offsets_of lists) root (omega (arith, length-map lists (λ list. list.offset), number, r.some)))
