use Rattle.std.proofs.Common.{◌∷◌, ◌++◌, suc, take, drop, subst}
use Rattle.reg_arena.specs.Arena.{heap_of}
use Rattle.reg_records.specs.SubkeyLists.{Entry}
use Rattle.reg_index.specs.Internal.IndexLists.{IsRoot}
use Rattle.reg_index.proofs.RootGaps.{number-room, over}
use Rattle.reg_index.proofs.root.put_over.Goals as goal

pub put_entry-requires : goal.put_entry-requires
put_entry-requires c = number-room (heap_of c.args.arena.now) c.args.root c.args.number c.requires.root

pub returns-clause-root : goal.returns-clause-root
returns-clause-root c = λ offsets is l.
    subst (λ (e : Entry). IsRoot (heap_of c.put_entry.new.arena) c.args.root (take c.args.number offsets ++ e.offset ∷ drop (suc c.args.number) offsets)) c.plain.ensures
    (over (heap_of c.args.arena.now) (heap_of c.put_entry.new.arena) c.args.root c.args.number c.plain.result.offset c.put_entry.ensures.offset
    c.put_entry.ensures.written.here offsets is l)
