use Rattle.reg_tree_image.proofs.Readers.BlockWords.{AreCounted}
use Rattle.reg_tree_image.proofs.block.head_checksum.Given as goal

abbrev pub invariant-loop-at : goal.invariant-loop-at
invariant-loop-at l = AreCounted l.block l.at l.sum

abbrev pub decreases-loop-at : goal.decreases-loop-at
decreases-loop-at l = l.at
