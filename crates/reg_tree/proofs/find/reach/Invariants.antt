use Rattle.std.proofs.Common.{length}
use Rattle.reg_arena.specs.Arena.{heap_of}
use Rattle.reg_tree.proofs.PathWalk.WalkPlaces.{PassesTo}
use Rattle.reg_tree.proofs.find.reach.Given as goal

abbrev pub invariant-loop-name : goal.invariant-loop-name
invariant-loop-name l = PassesTo (heap_of l.fn.arena) l.fn.from l.fn.path l.node l.rest l.place

abbrev pub decreases-loop-name : goal.decreases-loop-name
decreases-loop-name l = length l.rest
