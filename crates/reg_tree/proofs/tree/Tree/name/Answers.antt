use Rattle.std.proofs.Common.{◌≡◌, Some}
use Rattle.std.specs.FinMap.{get}
use Rattle.reg_heap.specs.Paths.{Tree, Rec}
use Rattle.reg_tree.proofs.Invariant.NodeLemmas.{here_at, there_at, of_tree, at-there}
use Rattle.reg_tree.proofs.tree.Tree.name.Goals as goal

pub name-requires : goal.name-requires
name-requires c = there_at _ _ c.self.invariant.0 _ c.self.view_is _ c.requires

pub returns-clause-told : goal.returns-clause-told
returns-clause-told c = λ p at.
    of_tree _ _ c.self.invariant.0 _ c.self.view_is (λ (t : Tree). (r : Rec) → get t p ≡ Some r →
    c.name.result.now ≡ r.name) (c.name.ensures.told (here_at _ _ c.self.invariant.0 _ c.self.view_is c.args.node p at))

pub returns-clause-key : goal.returns-clause-key
returns-clause-key c = λ p at. at-there _ _ c.self.invariant.0 _ c.self.view_is c.args.node p at
