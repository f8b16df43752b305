use Rattle.std.proofs.Common.{◌-◌, length}
use Rattle.reg_tree_text.specs.DumpTexts.{keys_told}
use Rattle.reg_tree_text.specs.Internal.Walking.{IsAmid}
use Rattle.reg_tree_text.proofs.counting.count.Given as goal

abbrev pub invariant-loop-walk : goal.invariant-loop-walk
invariant-loop-walk l = IsAmid l.tree l.walk l.counts

abbrev pub decreases-loop-walk : goal.decreases-loop-walk
decreases-loop-walk l = length (keys_told l.tree.tree) - l.counts.keys
