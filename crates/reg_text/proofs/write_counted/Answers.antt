use Rattle.std.proofs.Common.{subst, List, ℕ, take}
use Rattle.std.specs.Io.KnownBytes.{Appends}
use Rattle.reg_text.proofs.AppendedBytes.{Appends-more, rest_is, rest_fits}
use Rattle.reg_text.proofs.FailureCounts.{stays-then}
use Rattle.reg_text.proofs.write_counted.Goals as goal

pub loop-taken-preserved : goal.loop-taken-preserved
loop-taken-preserved g c = record {
  within = rest_fits c.loop-taken.taken c.in-Ok.count c.args.bytes.now c.loop-taken-test.true c.in-Ok.ensures.bound;
  written = Appends-more _ _ _ c.args.bytes.now c.loop-taken.taken c.in-Ok.count c.loop-taken.invariant.written
      (subst (λ (w : List ℕ). Appends (g.S.Sink.contents c.loop-taken.sink) (g.S.Sink.contents c.send.new.self) (take c.in-Ok.count w))
      (rest_is c.loop-taken.taken c.args.bytes.now) c.in-Ok.ensures.bytes);
  stays = stays-then _ _ _ c.loop-taken.invariant.stays c.in-Ok.ensures.failures;
}
