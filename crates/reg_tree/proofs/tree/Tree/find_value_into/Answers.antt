use Rattle.std.proofs.Common.{◌≡◌, None}
use Rattle.reg_heap.specs.Paths.{Tree}
use Rattle.reg_heap.specs.Edits.{values_at}
use Rattle.reg_heap.specs.Members.{value_named}
use Rattle.reg_tree.specs.ValueAnswers.{IsFound, fitted_by}
use Rattle.reg_tree.proofs.Invariant.NodeLemmas.{here_at, there_at, of_tree}
use Rattle.reg_tree.proofs.ValueChange.NotedNames.{lacking_found, lacking_room}
use Rattle.reg_tree.proofs.tree.Tree.find_value_into.Goals as goal

pub returns-then-lacks-clause-found : goal.returns-then-lacks-clause-found
returns-then-lacks-clause-found c = λ p at.
    of_tree _ _ c.self.invariant.0 _ c.self.view_is (λ (t : Tree). IsFound (values_at t p) (value_named c.args.name.now (values_at t p)) None)
    (lacking_found _ _ _ c.self.invariant.1 _ p (here_at _ _ c.self.invariant.0 _ c.self.view_is c.args.node p at).at _
    (c.lacks.ensures.noted c.if-lacks.true) (c.lacks.ensures.lacks c.if-lacks.true))

pub returns-then-lacks-clause-room : goal.returns-then-lacks-clause-room
returns-then-lacks-clause-room c = λ p at.
    of_tree _ _ c.self.invariant.0 _ c.self.view_is (λ (t : Tree). c.args.room.now ≡ fitted_by (value_named c.args.name.now (values_at t p)) c.args.room.now)
    (lacking_room _ _ _ c.self.invariant.1 _ p (here_at _ _ c.self.invariant.0 _ c.self.view_is c.args.node p at).at _
    (c.lacks.ensures.noted c.if-lacks.true) (c.lacks.ensures.lacks c.if-lacks.true) c.args.room.now)

pub find_into-requires : goal.find_into-requires
find_into-requires c = there_at _ _ c.self.invariant.0 _ c.self.view_is _ c.requires

pub returns-clause-found : goal.returns-clause-found
returns-clause-found c = λ p at.
    of_tree _ _ c.self.invariant.0 _ c.self.view_is (λ (t : Tree). IsFound (values_at t p) (value_named c.args.name.now (values_at t p)) c.find_into.result)
    (c.find_into.ensures.found (here_at _ _ c.self.invariant.0 _ c.self.view_is c.args.node p at))

pub returns-clause-room : goal.returns-clause-room
returns-clause-room c = λ p at.
    of_tree _ _ c.self.invariant.0 _ c.self.view_is (λ (t : Tree). c.find_into.new.room ≡ fitted_by (value_named c.args.name.now (values_at t p)) c.args.room.now)
    (c.find_into.ensures.room (here_at _ _ c.self.invariant.0 _ c.self.view_is c.args.node p at))
