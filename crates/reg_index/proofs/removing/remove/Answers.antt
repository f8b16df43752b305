use Rattle.reg_arena.specs.Arena.{heap_of}
use Rattle.reg_shape.specs.Nodes.{lists_of}
use Rattle.reg_index.proofs.SubkeysOnce.{lists-once}
use Rattle.reg_index.proofs.SubkeysOpening.{lists-has}
use Rattle.reg_index.proofs.SubkeyRemoved.{stands-among, fewer, fewer-moves, fewer-indexed}
use Rattle.reg_index.proofs.removing.remove.Goals as goal

pub remove_entry-offset-requires : goal.remove_entry-offset-requires
remove_entry-offset-requires c =
    let s = c.requires.subkeys.1 in (
      lists_of s.index,
      lists-has _ _ _ _ s,
      stands-among (heap_of c.args.arena.now) c.args.list.count c.args.list.offset c.args.place c.requires.place c.requires.subkeys.0 s,
      lists-once _ _ _ _ s,
    )

pub returns-clause-subkeys : goal.returns-clause-subkeys
returns-clause-subkeys c = λ entries s.
    fewer (heap_of c.args.arena.now) c.args.list.count c.args.list.offset c.args.place c.requires.place entries s (heap_of c.remove_entry-offset.new.arena)
    c.remove_entry-offset.result c.remove_entry-offset.ensures.lists

pub returns-clause-moves : goal.returns-clause-moves
returns-clause-moves c =
    fewer-moves (heap_of c.args.arena.now) c.args.list.count c.args.list.offset c.args.place c.requires.place c.requires.subkeys.0 c.requires.subkeys.1
    (heap_of c.remove_entry-offset.new.arena) c.remove_entry-offset.result c.remove_entry-offset.ensures.lists

pub returns-clause-index : goal.returns-clause-index
returns-clause-index c =
    fewer-indexed (heap_of c.args.arena.now) c.args.list.count c.args.list.offset c.args.place c.requires.place c.requires.subkeys.0 c.requires.subkeys.1
    (heap_of c.remove_entry-offset.new.arena) c.remove_entry-offset.result c.remove_entry-offset.ensures.lists c.remove_entry-offset.ensures.place
