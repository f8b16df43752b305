use Rattle.reg_arena.specs.Arena.{heap_of}
use Rattle.reg_index.proofs.ListsRead.{list-there}
use Rattle.reg_index.proofs.finding.count_entries.Goals as goal

pub content-requires : goal.content-requires
content-requires c = list-there (heap_of c.args.arena.now) c.args.leaf _ c.requires.1

pub count_in-requires : goal.count_in-requires
count_in-requires c = (heap_of c.args.arena.now, c.args.leaf, c.requires.0, c.requires.1, c.content.ensures)

pub returns : goal.returns
returns c = λ entries is. c.count_in.ensures (heap_of c.args.arena.now) c.args.leaf entries is c.content.ensures
