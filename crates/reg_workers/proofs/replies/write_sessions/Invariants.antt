use Rattle.std.proofs.Common.{◌≡◌, ◌++◌}
use Rattle.std.specs.Prelude.{string_bytes}
use Rattle.reg_workers.specs.Internal.Working.{sessions_by}
use Rattle.reg_workers.proofs.replies.write_sessions.Given as goal

abbrev pub invariant-loop-s : goal.invariant-loop-s
invariant-loop-s l = string_bytes l.text ≡ string_bytes l.fn.text ++ sessions_by l.parts l.jobs l.s
