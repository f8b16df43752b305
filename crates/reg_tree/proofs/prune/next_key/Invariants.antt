use Rattle.reg_tree.specs.Internal.KeyOrder.{HasTop}
use Rattle.reg_tree.proofs.PruneTree.NextKeys.{Climbs}
use Rattle.reg_tree.proofs.prune.next_key.Given as goal

abbrev pub invariant-loop-node : goal.invariant-loop-node
invariant-loop-node l = (t : HasTop l.arena.bytes l.fn.from) → Climbs l.arena.bytes t.here.root t.top t.names l.node

abbrev pub decreases-loop-node : goal.decreases-loop-node
decreases-loop-node l = l.node.depth
