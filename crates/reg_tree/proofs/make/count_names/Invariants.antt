use Rattle.std.proofs.Common.{◌≡◌, ◌+◌, true, length}
use Rattle.reg_names.specs.Names.{is_path, path_of}
use Rattle.reg_tree.proofs.make.count_names.Given as goal

abbrev pub invariant-loop-behind : goal.invariant-loop-behind
invariant-loop-behind l = (is_path l.rest ≡ true) × (l.count + length (path_of l.rest) ≡ length (path_of l.fn.path))

abbrev pub decreases-loop-behind : goal.decreases-loop-behind
decreases-loop-behind l = length l.rest
