use Rattle.std.proofs.Common.{◌≡◌, length}
use Rattle.reg_tree.specs.Internal.TreeInvariant.{IsHere}
use Rattle.reg_tree.proofs.PruneTree.KeysUnder.{Prunes, steps_left}
use Rattle.reg_tree.proofs.PruneTree.PlaceAbove.{at_place}
use Rattle.reg_tree.proofs.prune.delete_under.Given as goal

abbrev pub invariant-loop-first : goal.invariant-loop-first
invariant-loop-first l = record {
  run : (t : IsHere l.fn.arena.bytes l.fn.top) → t.table ≡ l.fn.securities → Prunes l.fn.arena.bytes t.root t.path l.fn.moment l.arena.bytes l.securities l.node;
  long : length l.arena.bytes ≡ length l.fn.arena.bytes;
}

abbrev pub decreases-loop-first : goal.decreases-loop-first
decreases-loop-first l = at_place l.arena.bytes l.node.offset steps_left
