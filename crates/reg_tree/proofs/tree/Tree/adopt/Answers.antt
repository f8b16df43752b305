use Rattle.reg_tree.proofs.Invariant.AdoptedTrees.{adopted_ring, adopted_holds}
use Rattle.reg_tree.proofs.ValueChange.NotedNames.{none_noted}
use Rattle.reg_tree.proofs.tree.Tree.adopt.Goals as goal

pub of_ring-requires : goal.of_ring-requires
of_ring-requires c = adopted_ring _ _ _ c.requires

pub invariant_of-result : goal.invariant_of-result
invariant_of-result c = (adopted_holds _ _ _ c.requires _ c.in_ok-securities.ensures, none_noted _ _ _ c.new.ensures)
