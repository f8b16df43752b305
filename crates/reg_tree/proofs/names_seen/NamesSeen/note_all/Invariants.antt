use Rattle.std.proofs.Common.{◌≡◌, ℕ, Some}
use Rattle.reg_heap.specs.Edits.{values_at}
use Rattle.reg_tree.specs.TreeKeys.{tree_in}
use Rattle.reg_tree.specs.Internal.TreeInvariant.{IsHere}
use Rattle.reg_tree.proofs.ValueChange.NotedNames.{HasNotedFront}
use Rattle.reg_tree.proofs.names_seen.NamesSeen.note_all.Given as goal

abbrev pub invariant-loop-index : goal.invariant-loop-index
invariant-loop-index l = record {
  only : (other : ℕ) → l.self.noted ≡ Some other → other ≡ l.key;
  front : (t : IsHere l.arena.bytes l.key) → HasNotedFront l.self l.key (values_at (tree_in l.arena.bytes t.root) t.path) l.index;
}
