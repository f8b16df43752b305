use Rattle.reg_arena.specs.Arena.{heap_of}
use Rattle.reg_shape.specs.Nodes.{lists_of}
use Rattle.reg_index.proofs.ReadyCells.{first-carved, first-room, room-at, no-root, one-alone, first-there, all-three, room-for-two}
use Rattle.reg_index.proofs.SubkeyAdded.{first-more, grown-more, halved-more}
use Rattle.reg_index.proofs.inserting.insert_entry.Goals as goal

pub unreachable-requires : goal.unreachable-requires
unreachable-requires c =
    first-carved (heap_of c.args.arena.now) c.args.list.count c.args.list.offset c.args.place c.args.cells c.if-list-eq0.true c.requires.ready c.in_default.is

pub put_first-requires : goal.put_first-requires
put_first-requires c = record {
  room = first-room (heap_of c.args.arena.now) c.args.list.count c.args.list.offset c.args.place c.args.cells c.if-list-eq0.true c.requires.ready c.in-Some.cell c.in-Some.is;
}

pub insert_within-requires : goal.insert_within-requires
insert_within-requires c =
    let s = c.requires.subkeys.1 in (
      lists_of s.index,
      room-at (heap_of c.args.arena.now) c.args.list.count c.args.list.offset c.args.place c.args.cells c.if-list-eq0.false c.requires.place c.requires.ready
          c.requires.once c.requires.subkeys.0 s c.in_default-second.is,
    )

pub unreachable-requires-in_default-list : goal.unreachable-requires-in_default-list
unreachable-requires-in_default-list c =
    first-there (heap_of c.args.arena.now) c.args.list.count c.args.list.offset c.args.place c.args.cells c.if-list-eq0.false c.requires.place c.requires.ready
    c.requires.once c.requires.subkeys.0 c.requires.subkeys.1 c.in-Some-second.second c.in-Some-second.is c.in_default-list.is

pub insert_splitting-requires : goal.insert_splitting-requires
insert_splitting-requires c =
    let s = c.requires.subkeys.1 in (
      lists_of s.index,
      room-for-two (heap_of c.args.arena.now) c.args.list.count c.args.list.offset c.args.place c.args.cells c.if-list-eq0.false c.requires.place c.requires.ready
          c.requires.once c.requires.subkeys.0 s c.in-Some-second.second c.in-Some-second.is c.in-Some-list.first c.in-Some-list.is c.requires.few,
    )

pub returns-then-list-eq0-clause-lists : goal.returns-then-list-eq0-clause-lists
returns-then-list-eq0-clause-lists c =
    first-more (heap_of c.args.arena.now) (heap_of c.put_first.new.arena) c.args.list.count c.args.list.offset c.args.place c.args.entry c.args.cells c.in-Some.cell
    c.if-list-eq0.true c.requires.ready c.in-Some.is c.put_first.ensures.leaf c.put_first.ensures.writes

pub returns-in_default-second-clause-lists : goal.returns-in_default-second-clause-lists
returns-in_default-second-clause-lists c = λ entries s.
    let r = room-at (heap_of c.args.arena.now) c.args.list.count c.args.list.offset c.args.place c.args.cells c.if-list-eq0.false c.requires.place c.requires.ready
    c.requires.once entries s c.in_default-second.is in
    grown-more (heap_of c.args.arena.now) (heap_of c.insert_within.new.arena) c.args.list.count c.args.list.offset c.insert_within.result c.args.place c.args.entry c.args.cells
    entries s
    (one-alone (heap_of c.args.arena.now) c.args.list.count c.args.list.offset c.args.place c.args.cells c.if-list-eq0.false c.requires.place c.requires.ready
    c.requires.once entries s c.in_default-second.is)
    r
    (no-root (heap_of c.args.arena.now) c.args.list.count c.args.list.offset c.args.place c.args.cells c.if-list-eq0.false c.requires.place c.requires.ready
    c.requires.once entries s c.in_default-second.is)
    (c.insert_within.ensures.place (lists_of s.index) r) (c.insert_within.ensures.lists (lists_of s.index) r)

pub returns-clause-lists : goal.returns-clause-lists
returns-clause-lists c = λ entries s.
    let r = room-for-two (heap_of c.args.arena.now) c.args.list.count c.args.list.offset c.args.place c.args.cells c.if-list-eq0.false c.requires.place c.requires.ready
    c.requires.once entries s c.in-Some-second.second c.in-Some-second.is c.in-Some-list.first c.in-Some-list.is c.requires.few in
    halved-more (heap_of c.args.arena.now) (heap_of c.insert_splitting.new.arena) c.args.list.count c.args.list.offset c.insert_splitting.result c.args.place c.args.entry c.args.cells
    entries s c.in-Some-list.first c.in-Some-second.second c.in-Some-list.is c.in-Some-second.is
    (all-three (heap_of c.args.arena.now) c.args.list.count c.args.list.offset c.args.place c.args.cells c.if-list-eq0.false c.requires.place c.requires.ready
    c.requires.once entries s c.in-Some-second.second c.in-Some-second.is c.in-Some-list.first c.in-Some-list.is)
    r c.insert_splitting.ensures.place (c.insert_splitting.ensures.lists (lists_of s.index) r)
