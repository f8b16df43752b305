use Rattle.std.proofs.Common.{◌≡◌, drop}
use Rattle.reg_names.specs.Names.{name_cmp}
use Rattle.reg_index.proofs.order.order_by_bytes.Given as goal

abbrev pub invariant-loop-index : goal.invariant-loop-index
invariant-loop-index l = name_cmp l.a l.b ≡ name_cmp (drop l.index l.a) (drop l.index l.b)
