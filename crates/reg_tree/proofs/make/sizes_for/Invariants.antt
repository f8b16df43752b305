use Rattle.std.proofs.Common.{◌≡◌, ◌++◌, true, map, length}
use Rattle.reg_names.specs.Names.{is_path, path_of}
use Rattle.reg_tree.specs.Internal.SpareCells.{own_sizes, sizes_of}
use Rattle.reg_tree.proofs.make.sizes_for.Given as goal

abbrev pub invariant-loop-name : goal.invariant-loop-name
invariant-loop-name l = (is_path l.rest ≡ true) × (l.sizes.items ++ sizes_of l.plan (map own_sizes (path_of l.rest)) ≡ sizes_of l.fn.planned (map own_sizes (path_of l.fn.path)))

abbrev pub decreases-loop-name : goal.decreases-loop-name
decreases-loop-name l = length l.rest
