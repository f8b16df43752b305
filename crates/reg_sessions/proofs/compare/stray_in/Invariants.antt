use Rattle.std.proofs.Common.{◌≡◌, take}
use Rattle.reg_sessions.proofs.compare.stray_in.Given as goal

abbrev pub invariant-loop-place : goal.invariant-loop-place
invariant-loop-place l = take l.place l.told ≡ take l.place l.taken
