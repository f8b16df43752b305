use Rattle.std.proofs.Common.{◌≡◌, length}
use Rattle.reg_sessions.specs.Locked.{AreUnused}
use Rattle.reg_workers.proofs.working.fresh_hives.Given as goal

abbrev pub invariant-loop-number : goal.invariant-loop-number
invariant-loop-number l = (length l.hives.items ≡ l._number) × AreUnused l.hives.items
