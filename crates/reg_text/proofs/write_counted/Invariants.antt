use Rattle.std.proofs.Common.{◌≤◌, ◌-◌, length, take}
use Rattle.std.specs.Io.KnownBytes.{Appends}
use Rattle.reg_text.specs.Failures.{Stays}
use Rattle.reg_text.proofs.write_counted.Given as goal

abbrev pub invariant-loop-taken : goal.invariant-loop-taken
invariant-loop-taken g l = record {
  within : l.taken ≤ length l.bytes;
  written : Appends (g.S.Sink.contents l.fn.sink) (g.S.Sink.contents l.sink) (take l.taken l.bytes);
  stays : Stays (g.S.Sink.failures l.fn.sink) (g.S.Sink.failures l.sink);
}

abbrev pub decreases-loop-taken : goal.decreases-loop-taken
decreases-loop-taken g l = length l.bytes - l.taken
