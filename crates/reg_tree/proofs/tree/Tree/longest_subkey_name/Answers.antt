use Rattle.std.proofs.Common.{◌≡◌, max}
use Rattle.std.specs.List.{fold}
use Rattle.std.specs.FinMap.{get}
use Rattle.reg_heap.specs.Paths.{Tree, Path, children_of}
use Rattle.reg_tree.specs.SubkeyWalk.{name_length}
use Rattle.reg_tree.proofs.Invariant.NodeLemmas.{here_at, there_at, of_tree}
use Rattle.reg_tree.proofs.tree.Tree.longest_subkey_name.Goals as goal

pub longest_subkey_name-requires : goal.longest_subkey_name-requires
longest_subkey_name-requires c = there_at _ _ c.self.invariant.0 _ c.self.view_is _ c.requires

pub returns : goal.returns
returns c = λ p at.
    of_tree _ _ c.self.invariant.0 _ c.self.view_is
    (λ (t : Tree). c.longest_subkey_name.result ≡ fold (λ a (q : Path). max a (name_length (get t q))) 0 (children_of t p))
    (c.longest_subkey_name.ensures (here_at _ _ c.self.invariant.0 _ c.self.view_is c.args.node p at))
