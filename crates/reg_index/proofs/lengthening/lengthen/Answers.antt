use Rattle.reg_arena.specs.Arena.{heap_of}
use Rattle.reg_shape.specs.Nodes.{lists_of}
use Rattle.reg_index.proofs.LastMoved.{moved-indexed, moved-moves, moved-stay, moved-subkeys, room-for-last}
use Rattle.reg_index.proofs.lengthening.lengthen.Goals as goal

pub move_last-offset-requires : goal.move_last-offset-requires
move_last-offset-requires c =
    let s = c.requires.subkeys.1 in (
      lists_of s.index,
      room-for-last (heap_of c.args.arena.now) c.args.list.count c.args.list.offset c.args.cell c.requires.some c.requires.ready c.requires.bare c.requires.once c.requires.subkeys.0 s,
    )

pub returns-clause-subkeys : goal.returns-clause-subkeys
returns-clause-subkeys c = λ entries s.
    moved-subkeys (heap_of c.args.arena.now) c.args.list.count c.args.list.offset c.args.cell c.requires.some c.requires.ready c.requires.bare c.requires.once entries s
    (heap_of c.move_last-offset.new.arena) c.move_last-offset.result c.move_last-offset.ensures.lists

pub returns-clause-index : goal.returns-clause-index
returns-clause-index c =
    moved-indexed (heap_of c.args.arena.now) c.args.list.count c.args.list.offset c.args.cell c.requires.some c.requires.ready c.requires.bare c.requires.once
    c.requires.subkeys.0 c.requires.subkeys.1 (heap_of c.move_last-offset.new.arena) c.move_last-offset.result c.move_last-offset.ensures.lists c.move_last-offset.ensures.place

pub returns-clause-moves : goal.returns-clause-moves
returns-clause-moves c =
    moved-moves (heap_of c.args.arena.now) c.args.list.count c.args.list.offset c.args.cell c.requires.some c.requires.ready c.requires.bare c.requires.once
    c.requires.subkeys.0 c.requires.subkeys.1 (heap_of c.move_last-offset.new.arena) c.move_last-offset.result c.move_last-offset.ensures.lists

pub returns-clause-stay : goal.returns-clause-stay
returns-clause-stay c =
    moved-stay (heap_of c.args.arena.now) c.args.list.count c.args.list.offset c.args.cell c.requires.some c.requires.ready c.requires.bare c.requires.once
    c.requires.subkeys.0 c.requires.subkeys.1 (heap_of c.move_last-offset.new.arena) c.move_last-offset.result c.move_last-offset.ensures.lists
