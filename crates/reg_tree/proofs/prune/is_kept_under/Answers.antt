use Rattle.reg_tree.proofs.PruneTree.MarkedKeys.{none-under, first-top, some-under}
use Rattle.reg_tree.proofs.PruneTree.TopKeys.{itself}
use Rattle.reg_tree.proofs.prune.is_kept_under.Goals as goal

pub next_key-requires : goal.next_key-requires
next_key-requires c = itself _ _ c.requires

pub returns-in_default : goal.returns-in_default
returns-in_default c = λ t. none-under _ _ t (c.in_default.ensures (itself _ _ t))

pub is_kept_from-requires : goal.is_kept_from-requires
is_kept_from-requires c = first-top _ _ c.requires c.in-Some.first (c.in-Some.ensures (itself _ _ c.requires))

pub returns : goal.returns
returns c = λ t.
    let k = c.in-Some.ensures (itself _ _ t) in
    some-under _ _ t c.in-Some.first k c.is_kept_from.result (c.is_kept_from.ensures (first-top _ _ t c.in-Some.first k))
