use Rattle.std.proofs.Common.{◌≡◌, length}
use Rattle.reg_sessions.proofs.Dropped.{AreDropped}
use Rattle.reg_sessions.proofs.checkpoints.drop_receipts.Given as goal

abbrev pub invariant-loop-s : goal.invariant-loop-s
invariant-loop-s l = (length l.sessions ≡ length l.initial.sessions) × AreDropped l.hive l.s l.initial.sessions l.sessions
