use Rattle.std.proofs.Common.{◌≡◌, drop}
use Rattle.reg_names.specs.Names.{name_cmp}
use Rattle.reg_names.proofs.name_order.Given as goal

abbrev pub invariant-loop-place : goal.invariant-loop-place
invariant-loop-place l = name_cmp l.a l.b ≡ name_cmp (drop l.place l.a) (drop l.place l.b)
