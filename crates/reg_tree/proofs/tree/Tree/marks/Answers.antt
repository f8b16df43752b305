use Rattle.std.proofs.Common.{◌≡◌, Some}
use Rattle.std.specs.FinMap.{get}
use Rattle.reg_heap.specs.Paths.{Tree, Rec}
use Rattle.reg_tree.proofs.Invariant.NodeLemmas.{here_at, there_at, of_tree}
use Rattle.reg_tree.proofs.tree.Tree.marks.Goals as goal

pub marks-requires : goal.marks-requires
marks-requires c = there_at _ _ c.self.invariant.0 _ c.self.view_is _ c.requires

pub returns : goal.returns
returns c = λ p at.
    of_tree _ _ c.self.invariant.0 _ c.self.view_is (λ (t : Tree). (r : Rec) → get t p ≡ Some r →
    c.marks.result ≡ r.marks) (c.marks.ensures (here_at _ _ c.self.invariant.0 _ c.self.view_is c.args.node p at))
