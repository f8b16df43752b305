use Rattle.std.proofs.Common.{length}
use Rattle.reg_arena.specs.Arena.{heap_of}
use Rattle.reg_tree.specs.Internal.PathWalks.{Passes}
use Rattle.reg_tree.proofs.find.resolve.Given as goal

abbrev pub invariant-loop-name : goal.invariant-loop-name
invariant-loop-name l = Passes (heap_of l.fn.arena) l.fn.from l.fn.path l.node l.rest

abbrev pub decreases-loop-name : goal.decreases-loop-name
decreases-loop-name l = length l.rest
