use Rattle.reg_arena.specs.Arena.{heap_of}
use Rattle.reg_index.proofs.SubkeysBehind.{behind-is}
use Rattle.reg_index.proofs.finding.behind.Goals as goal

pub at_place-requires-clause-place : goal.at_place-requires-clause-place
at_place-requires-clause-place c = (c.in_ok-next.ensures c.requires.subkeys.0 c.requires.subkeys.1).0

pub returns : goal.returns
returns c = λ entries s.
    behind-is (heap_of c.args.arena.now) c.args.list.count c.args.list.offset c.args.place c.in_ok-next.next entries s
    (c.in_ok-next.ensures entries s) c.at_place.result (c.at_place.ensures entries s)
