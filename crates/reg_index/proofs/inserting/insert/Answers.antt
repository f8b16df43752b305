use Rattle.std.proofs.Common.{ap, ◌∙◌}
use Rattle.reg_names.specs.Names.{hash}
use Rattle.reg_arena.specs.Arena.{heap_of}
use Rattle.reg_index.proofs.SubkeyAdded.{one-more, one-moves, one-indexed, one-stay}
use Rattle.reg_index.proofs.inserting.insert.Goals as goal

pub returns-clause-subkeys : goal.returns-clause-subkeys
returns-clause-subkeys c =
    one-more (heap_of c.args.arena.now) (heap_of c.insert_entry-offset.new.arena) c.args.list.count c.args.list.offset c.insert_entry-offset.result c.args.place c.args.cells
    c.args.key c.name_hash-hint.result c.requires.key c.requires.ready (c.name_hash-hint.ensures ∙ ap hash c.name_of.ensures) c.requires.subkeys c.insert_entry-offset.ensures.lists

pub returns-clause-moves : goal.returns-clause-moves
returns-clause-moves c =
    one-moves (heap_of c.args.arena.now) (heap_of c.insert_entry-offset.new.arena) c.args.list.count c.args.list.offset c.insert_entry-offset.result c.args.place c.args.cells
    c.args.key c.name_hash-hint.result c.requires.key c.requires.ready (c.name_hash-hint.ensures ∙ ap hash c.name_of.ensures) c.requires.subkeys c.insert_entry-offset.ensures.lists
    c.requires.subkeys.0 c.requires.subkeys.1

pub returns-clause-stay : goal.returns-clause-stay
returns-clause-stay c =
    one-stay (heap_of c.args.arena.now) (heap_of c.insert_entry-offset.new.arena) c.args.list.count c.args.list.offset c.insert_entry-offset.result c.args.place c.args.cells
    c.args.key c.name_hash-hint.result c.requires.key c.requires.ready (c.name_hash-hint.ensures ∙ ap hash c.name_of.ensures) c.requires.subkeys c.insert_entry-offset.ensures.lists
    c.requires.subkeys.0 c.requires.subkeys.1

pub returns-clause-index : goal.returns-clause-index
returns-clause-index c =
    one-indexed (heap_of c.args.arena.now) (heap_of c.insert_entry-offset.new.arena) c.args.list.count c.args.list.offset c.insert_entry-offset.result c.args.place c.args.cells
    c.args.key c.name_hash-hint.result c.requires.key c.requires.ready (c.name_hash-hint.ensures ∙ ap hash c.name_of.ensures) c.requires.subkeys c.insert_entry-offset.ensures.lists
    c.requires.subkeys.0 c.requires.subkeys.1
