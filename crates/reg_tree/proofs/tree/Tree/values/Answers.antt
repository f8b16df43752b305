use Rattle.std.proofs.Common.{length, ◌≡◌}
use Rattle.reg_heap.specs.Paths.{Tree}
use Rattle.reg_heap.specs.Edits.{values_at}
use Rattle.reg_tree.proofs.Invariant.NodeLemmas.{here_at, there_at, of_tree}
use Rattle.reg_tree.proofs.tree.Tree.values.Goals as goal

pub count-requires : goal.count-requires
count-requires c = there_at _ _ c.self.invariant.0 _ c.self.view_is _ c.requires

pub returns : goal.returns
returns c = λ p at.
    of_tree _ _ c.self.invariant.0 _ c.self.view_is (λ (t : Tree). c.count.result ≡ length (values_at t p)) (c.count.ensures (here_at _ _ c.self.invariant.0 _ c.self.view_is c.args.node p at))
