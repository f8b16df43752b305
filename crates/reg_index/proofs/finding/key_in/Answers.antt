use Rattle.reg_arena.specs.Arena.{heap_of}
use Rattle.reg_index.proofs.ListsRead.{list-there}
use Rattle.reg_index.proofs.finding.key_in.Goals as goal

pub content-requires : goal.content-requires
content-requires c = list-there (heap_of c.args.arena.now) c.args.leaf _ c.requires.leaf.1

pub offset_in-requires-clause-leaf : goal.offset_in-requires-clause-leaf
offset_in-requires-clause-leaf c =
    let s = c.requires.leaf in
    (heap_of c.args.arena.now, c.args.leaf, s.0, s.1, c.content.ensures, s.2)

pub returns : goal.returns
returns c = λ entries is l. c.offset_in.ensures (heap_of c.args.arena.now) c.args.leaf entries is c.content.ensures l
