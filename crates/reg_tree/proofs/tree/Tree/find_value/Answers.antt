use Rattle.std.proofs.Common.{None}
use Rattle.reg_heap.specs.Paths.{Tree}
use Rattle.reg_heap.specs.Edits.{values_at}
use Rattle.reg_heap.specs.Members.{value_named}
use Rattle.reg_tree.specs.ValueAnswers.{IsFound}
use Rattle.reg_tree.proofs.Invariant.NodeLemmas.{here_at, there_at, of_tree}
use Rattle.reg_tree.proofs.ValueChange.NotedNames.{lacking_found}
use Rattle.reg_tree.proofs.tree.Tree.find_value.Goals as goal

pub returns-then-lacks : goal.returns-then-lacks
returns-then-lacks c = λ p at.
    of_tree _ _ c.self.invariant.0 _ c.self.view_is (λ (t : Tree). IsFound (values_at t p) (value_named c.args.name.now (values_at t p)) None)
    (lacking_found _ _ _ c.self.invariant.1 _ p (here_at _ _ c.self.invariant.0 _ c.self.view_is c.args.node p at).at _
    (c.lacks.ensures.noted c.if-lacks.true) (c.lacks.ensures.lacks c.if-lacks.true))

pub find_into-requires : goal.find_into-requires
find_into-requires c = there_at _ _ c.self.invariant.0 _ c.self.view_is _ c.requires

pub returns : goal.returns
returns c = λ p at.
    of_tree _ _ c.self.invariant.0 _ c.self.view_is (λ (t : Tree). IsFound (values_at t p) (value_named c.args.name.now (values_at t p)) c.find_into.result)
    (c.find_into.ensures.found (here_at _ _ c.self.invariant.0 _ c.self.view_is c.args.node p at))
