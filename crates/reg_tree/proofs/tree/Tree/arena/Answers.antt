use Rattle.std.proofs.Common.{subst}
use Rattle.reg_tree.specs.TreeKeys.{Keys, IsWholeTree}
use Rattle.reg_tree.proofs.Invariant.KeyOfTree.{whole_tree}
use Rattle.reg_tree.proofs.tree.Tree.arena.Goals as goal

pub returns-clause-whole : goal.returns-clause-whole
returns-clause-whole c = subst (λ (k : Keys). IsWholeTree k.bins.bytes k.root k.tree) c.self.view_is (whole_tree _ _ c.self.invariant.0)
