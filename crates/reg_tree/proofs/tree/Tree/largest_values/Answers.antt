use Rattle.std.proofs.Common.{◌≡◌, max, length}
use Rattle.std.specs.List.{fold}
use Rattle.reg_heap.specs.Paths.{Tree, Member}
use Rattle.reg_heap.specs.Edits.{values_at}
use Rattle.reg_tree.proofs.Invariant.NodeLemmas.{here_at, there_at, of_tree}
use Rattle.reg_tree.proofs.tree.Tree.largest_values.Goals as goal

pub largest-requires : goal.largest-requires
largest-requires c = there_at _ _ c.self.invariant.0 _ c.self.view_is _ c.requires

pub returns-clause-name : goal.returns-clause-name
returns-clause-name c = λ p at.
    of_tree _ _ c.self.invariant.0 _ c.self.view_is
    (λ (t : Tree). c.largest.result.name ≡ fold (λ a (m : Member). max a (length m.name)) 0 (values_at t p))
    (c.largest.ensures.name (here_at _ _ c.self.invariant.0 _ c.self.view_is c.args.node p at))

pub returns-clause-size : goal.returns-clause-size
returns-clause-size c = λ p at.
    of_tree _ _ c.self.invariant.0 _ c.self.view_is
    (λ (t : Tree). c.largest.result.size ≡ fold (λ a (m : Member). max a (length m.bytes)) 0 (values_at t p))
    (c.largest.ensures.size (here_at _ _ c.self.invariant.0 _ c.self.view_is c.args.node p at))
