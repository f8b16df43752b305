use Rattle.std.proofs.Common.{◌<◌, ℕ, slice_index_or}
use Rattle.reg_calls.specs.declared.hive.Hive.{Hive}
use Rattle.reg_sessions.specs.Locked.{IsUnused}
use Rattle.reg_sessions.proofs.starting.are_unused.Given as goal

abbrev pub invariant-loop-i : goal.invariant-loop-i
invariant-loop-i g l = (k : ℕ) (d : Hive _) → k < l.i → IsUnused (slice_index_or l.hives k d)
