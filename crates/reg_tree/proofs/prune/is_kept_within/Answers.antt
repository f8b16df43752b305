use Rattle.reg_tree.proofs.PruneTree.MarkedKeys.{told-within}
use Rattle.reg_tree.proofs.PruneTree.TopKeys.{itself}
use Rattle.reg_tree.proofs.prune.is_kept_within.Goals as goal

pub is_kept_from-requires : goal.is_kept_from-requires
is_kept_from-requires c = itself _ _ c.requires

pub returns : goal.returns
returns c = λ t. told-within _ _ t c.is_kept_from.result (c.is_kept_from.ensures (itself _ _ t))
