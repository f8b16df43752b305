use Rattle.std.proofs.Common.{◌+◌, ◌-◌, ◌≡◌, ◌≤◌, take, length}
use Rattle.reg_names.proofs.common_front.Given as goal

abbrev pub invariant-loop-front : goal.invariant-loop-front
invariant-loop-front l = (l.front ≤ length l.a) × (l.front ≤ length l.b) × (take l.front l.a ≡ take l.front l.b)

abbrev pub decreases-loop-front : goal.decreases-loop-front
decreases-loop-front l = l.most + 1 - l.front
