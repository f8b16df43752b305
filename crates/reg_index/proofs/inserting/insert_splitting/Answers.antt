use Rattle.std.proofs.Common.{◌≤◌, length, sym, ◌∙◌, arith}
use Rattle.std.proofs.lemmas.List.{length-map}
use Rattle.reg_arena.specs.Arena.{heap_of}
use Rattle.reg_index.specs.Internal.IndexLists.{offsets_of}
use Rattle.reg_index.proofs.ListHalved.{halved-once, full-leaf, two-room, halved-alone, root-after, root-after-long, root-room-after, halved-under}
use Rattle.reg_index.proofs.inserting.insert_splitting.Goals as goal

pub split-requires-clause-once : goal.split-requires-clause-once
split-requires-clause-once c =
    let s = c.requires in
    let r = s.1 in
    halved-once (heap_of c.args.arena.now) (heap_of c.args.arena.now) c.args.offset c.leaf_at-leaf.result c.args.place c.args.first c.args.second c.args.root c.args.entry s.0 r
    (c.leaf_at-leaf.ensures s.0 r.lists_are r.within)

pub put_two-requires : goal.put_two-requires
put_two-requires c =
    let s = c.requires in
    let r = s.1 in
    let count = c.count_lists-lists.ensures.count s.0 r.lists_are (omega (arith, r.within)) in
    two-room (heap_of c.args.arena.now) (heap_of c.split.new.arena) c.args.offset c.leaf_at-leaf.result c.args.place c.args.first c.args.second c.args.root c.args.entry s.0 r
    (c.leaf_at-leaf.ensures s.0 r.lists_are r.within) c.split.ensures.moves c.in-Some.cell c.in-Some.is (sym count ∙ c.if-lists-eq1.true)

pub returns-then-lists-eq1-clause-lists : goal.returns-then-lists-eq1-clause-lists
returns-then-lists-eq1-clause-lists c = λ lists r.
    let count = c.count_lists-lists.ensures.count lists r.lists_are (omega (arith, r.within)) in
    let is = c.leaf_at-leaf.ensures lists r.lists_are r.within in
    let leaf = full-leaf (heap_of c.args.arena.now) (heap_of c.split.new.arena) c.args.offset c.leaf_at-leaf.result c.args.place c.args.first c.args.second c.args.root
    c.args.entry lists r is in
    halved-alone (heap_of c.args.arena.now) (heap_of c.split.new.arena) c.args.offset c.leaf_at-leaf.result c.args.place c.args.first c.args.second c.args.root c.args.entry lists r
    is c.split.ensures.moves c.in-Some.cell c.in-Some.is (sym count ∙ c.if-lists-eq1.true) (heap_of c.put_two.new.arena) c.put_two.ensures.writes
    (c.split.ensures.first _ leaf r.full) (c.split.ensures.second _ leaf r.full) c.put_two.ensures.root

pub put_halves-requires-clause-root : goal.put_halves-requires-clause-root
put_halves-requires-clause-root c =
    let s = c.requires in
    let r = s.1 in
    let count = c.count_lists-lists.ensures.count s.0 r.lists_are (omega (arith, r.within)) in
    root-after-long (heap_of c.args.arena.now) (heap_of c.split.new.arena) c.args.offset c.leaf_at-leaf.result c.args.place c.args.first c.args.second c.args.root c.args.entry s.0 r
    (c.leaf_at-leaf.ensures s.0 r.lists_are r.within) c.split.ensures.moves (omega (arith, count, r.within, c.if-lists-eq1.false)) c.count_lists-lists.result count

pub put_halves-requires-clause-room : goal.put_halves-requires-clause-room
put_halves-requires-clause-room c =
    let s = c.requires in
    let r = s.1 in
    let count = c.count_lists-lists.ensures.count s.0 r.lists_are (omega (arith, r.within)) in
    root-room-after (heap_of c.args.arena.now) (heap_of c.split.new.arena) c.args.offset c.leaf_at-leaf.result c.args.place c.args.first c.args.second c.args.root c.args.entry s.0 r
    (c.leaf_at-leaf.ensures s.0 r.lists_are r.within) c.split.ensures.moves (omega (arith, count, r.within, c.if-lists-eq1.false)) c.count_lists-lists.result count

pub returns-clause-lists : goal.returns-clause-lists
returns-clause-lists c = λ lists r.
    let count = c.count_lists-lists.ensures.count lists r.lists_are (omega (arith, r.within)) in
    let two : 2 ≤ length lists = omega (arith, count, r.within, c.if-lists-eq1.false) in
    let is = c.leaf_at-leaf.ensures lists r.lists_are r.within in
    let leaf = full-leaf (heap_of c.args.arena.now) (heap_of c.split.new.arena) c.args.offset c.leaf_at-leaf.result c.args.place c.args.first c.args.second c.args.root
    c.args.entry lists r is in
    let root = root-after (heap_of c.args.arena.now) (heap_of c.split.new.arena) c.args.offset c.leaf_at-leaf.result c.args.place c.args.first c.args.second c.args.root c.args.entry
    lists r is c.split.ensures.moves two in
    halved-under (heap_of c.args.arena.now) (heap_of c.split.new.arena) c.args.offset c.leaf_at-leaf.result c.args.place c.args.first c.args.second c.args.root c.args.entry lists r
    is c.split.ensures.moves two (heap_of c.put_halves.new.arena) c.put_halves.result c.put_halves.ensures.moves (c.split.ensures.first _ leaf r.full) (c.split.ensures.second _ leaf r.full)
    (c.put_halves.ensures.root (offsets_of lists) root (length-map lists (λ list. list.offset) ∙ sym count))
