use Rattle.reg_tree.specs.Internal.KeyOrder.{HasTop}
use Rattle.reg_tree.proofs.PruneTree.MarkedKeys.{Searches, keys_left}
use Rattle.reg_tree.proofs.PruneTree.PlaceAbove.{at_place}
use Rattle.reg_tree.proofs.prune.is_kept_from.Given as goal

abbrev pub invariant-loop-node : goal.invariant-loop-node
invariant-loop-node l = (t : HasTop l.arena.bytes l.fn.first) → Searches l.arena.bytes t.here.root t.top t.names l.node

abbrev pub decreases-loop-node : goal.decreases-loop-node
decreases-loop-node l = at_place l.arena.bytes l.node.offset keys_left
