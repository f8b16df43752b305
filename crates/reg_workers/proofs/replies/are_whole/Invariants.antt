use Rattle.std.proofs.Common.{◌≡◌, ◌<◌, ℕ, Some}
use Rattle.std.specs.Prelude.{slice_get}
use Rattle.reg_sessions.specs.Locked.{Held}
use Rattle.reg_workers.proofs.replies.are_whole.Given as goal

abbrev pub invariant-loop-hive : goal.invariant-loop-hive
invariant-loop-hive g l = (k : ℕ) (b : Held) → k < l.hive → slice_get l.audit k ≡ Some b → b.view.base ≡ 0
