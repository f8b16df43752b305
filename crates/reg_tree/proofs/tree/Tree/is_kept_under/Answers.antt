use Rattle.reg_heap.specs.Paths.{Tree}
use Rattle.reg_heap.specs.Edits.{any_kept_under}
use Rattle.std.proofs.Common.{◌≡◌}
use Rattle.reg_tree.proofs.Invariant.NodeLemmas.{there_at, here_at, of_tree}
use Rattle.reg_tree.proofs.tree.Tree.is_kept_under.Goals as goal

pub is_kept_under-requires : goal.is_kept_under-requires
is_kept_under-requires c = there_at _ _ c.self.invariant.0 _ c.self.view_is _ c.requires

pub returns : goal.returns
returns c = λ p at.
    of_tree _ _ c.self.invariant.0 _ c.self.view_is (λ (t : Tree). c.is_kept_under.result ≡ any_kept_under t p)
    (c.is_kept_under.ensures (here_at _ _ c.self.invariant.0 _ c.self.view_is c.args.node p at))
