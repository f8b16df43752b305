use Rattle.reg_arena.specs.Arena.{heap_of}
use Rattle.reg_index.proofs.ListsRead.{list-there, lists-head}
use Rattle.reg_index.proofs.finding.count_lists.Goals as goal

pub content-requires : goal.content-requires
content-requires c =
    let l = lists-head (heap_of c.args.arena.now) c.args.offset c.requires.0 c.requires.1 c.requires.2 in
    list-there (heap_of c.args.arena.now) c.args.offset l.0 l.1

pub lists_in-requires : goal.lists_in-requires
lists_in-requires c = (heap_of c.args.arena.now, c.args.offset, c.requires.0, c.requires.1, c.content.ensures, c.requires.2)

pub returns-clause-count : goal.returns-clause-count
returns-clause-count c = λ lists h some. c.lists_in.ensures.count (heap_of c.args.arena.now) c.args.offset lists h c.content.ensures some
