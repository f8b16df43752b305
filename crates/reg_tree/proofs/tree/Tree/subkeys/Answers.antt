use Rattle.std.proofs.Common.{◌≡◌, length}
use Rattle.reg_heap.specs.Paths.{Tree, children_of}
use Rattle.reg_tree.proofs.Invariant.NodeLemmas.{here_at, there_at, of_tree}
use Rattle.reg_tree.proofs.tree.Tree.subkeys.Goals as goal

pub subkeys-requires : goal.subkeys-requires
subkeys-requires c = there_at _ _ c.self.invariant.0 _ c.self.view_is _ c.requires

pub returns : goal.returns
returns c = λ p at.
    of_tree _ _ c.self.invariant.0 _ c.self.view_is (λ (t : Tree). c.subkeys.result ≡ length (children_of t p)) (c.subkeys.ensures (here_at _ _ c.self.invariant.0 _ c.self.view_is c.args.node p at))
