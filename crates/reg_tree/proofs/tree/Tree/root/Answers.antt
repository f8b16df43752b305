use Rattle.reg_heap.specs.Trees.{IsTree, IsWithinLimits}
use Rattle.reg_tree.proofs.Invariant.NodeLemmas.{root_at, here_at, there-shallow, of_tree}
use Rattle.reg_tree.proofs.Invariant.TreeLimits.{is_tree, is_within_limits}
use Rattle.reg_tree.proofs.PruneTree.PlaceAbove.{one_path}
use Rattle.reg_tree.proofs.tree.Tree.root.Goals as goal

pub returns-clause-at : goal.returns-clause-at
returns-clause-at c = root_at _ _ c.self.invariant.0 _ c.self.view_is

pub returns-clause-shallow : goal.returns-clause-shallow
returns-clause-shallow c = there-shallow _ _ c.self.invariant.0 _ c.self.view_is

pub returns-clause-tree : goal.returns-clause-tree
returns-clause-tree c = of_tree _ _ c.self.invariant.0 _ c.self.view_is IsTree (is_tree _ _ c.self.invariant.0)

pub returns-clause-limits : goal.returns-clause-limits
returns-clause-limits c = of_tree _ _ c.self.invariant.0 _ c.self.view_is IsWithinLimits (is_within_limits _ _ c.self.invariant.0)

pub returns-clause-one_path : goal.returns-clause-one_path
returns-clause-one_path c p q node a b =
    one_path _ node.offset (here_at _ _ c.self.invariant.0 _ c.self.view_is node p a)
    (here_at _ _ c.self.invariant.0 _ c.self.view_is node q b)
