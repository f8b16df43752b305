use Rattle.std.proofs.Common.{◌≡◌, length}
use Rattle.reg_names.specs.Names.{name_cmp}
use Rattle.reg_index.proofs.order.order.Given as goal

abbrev pub invariant-loop-first : goal.invariant-loop-first
invariant-loop-first l = name_cmp l.fn.a l.fn.b ≡ name_cmp l.one l.other

abbrev pub decreases-loop-first : goal.decreases-loop-first
decreases-loop-first l = length l.one
