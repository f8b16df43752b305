use Rattle.std.proofs.Common.{◌≡◌, ◌≤◌, take}
use Rattle.reg_arena.specs.EachCell.{fresh_of}
use Rattle.reg_arena.proofs.each.fresh_within.Given as goal

abbrev pub invariant-loop-size : goal.invariant-loop-size
invariant-loop-size l = record { sum : l.fresh ≡ fresh_of (take l.size-index l.sizes); within : l.fresh ≤ l.limit }
