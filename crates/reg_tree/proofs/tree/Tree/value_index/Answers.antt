use Rattle.std.proofs.Common.{◌≡◌, None, sym}
use Rattle.reg_heap.specs.Paths.{Tree}
use Rattle.reg_heap.specs.Edits.{values_at}
use Rattle.reg_heap.specs.Members.{index_named}
use Rattle.reg_tree.proofs.Invariant.NodeLemmas.{here_at, there_at, of_tree}
use Rattle.reg_tree.proofs.ValueChange.NotedNames.{lacking}
use Rattle.reg_tree.proofs.tree.Tree.value_index.Goals as goal

pub returns-then-lacks : goal.returns-then-lacks
returns-then-lacks c = λ p at.
    sym (of_tree _ _ c.self.invariant.0 _ c.self.view_is (λ (t : Tree). index_named c.args.name.now (values_at t p) ≡ None)
    (lacking _ _ _ c.self.invariant.1 _ p (here_at _ _ c.self.invariant.0 _ c.self.view_is c.args.node p at).at _
    (c.lacks.ensures.noted c.if-lacks.true) (c.lacks.ensures.lacks c.if-lacks.true)))

pub index-requires : goal.index-requires
index-requires c = there_at _ _ c.self.invariant.0 _ c.self.view_is _ c.requires

pub returns : goal.returns
returns c = λ p at.
    of_tree _ _ c.self.invariant.0 _ c.self.view_is (λ (t : Tree). c.index.result ≡ index_named c.args.name.now (values_at t p))
    (c.index.ensures (here_at _ _ c.self.invariant.0 _ c.self.view_is c.args.node p at))
