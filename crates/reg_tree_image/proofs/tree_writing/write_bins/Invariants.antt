use Rattle.std.proofs.Common.{◌≤◌, ◌-◌, length, take}
use Rattle.std.specs.Io.KnownBytes.{Appends}
use Rattle.reg_text.specs.Failures.{Stays}
use Rattle.reg_tree_image.proofs.Devices.WrittenBins.{IsBoundary}
use Rattle.reg_tree_image.proofs.tree_writing.write_bins.Given as goal

abbrev pub invariant-loop-at : goal.invariant-loop-at
invariant-loop-at g l = record {
  boundary : IsBoundary l.arena.bytes l.at;
  within : l.at ≤ length l.arena.bytes;
  written : Appends (g.W.Sink.contents l.fn.writer) (g.W.Sink.contents l.writer) (take l.at l.arena.bytes);
  stays : Stays (g.W.Sink.failures l.fn.writer) (g.W.Sink.failures l.writer);
}

abbrev pub decreases-loop-at : goal.decreases-loop-at
decreases-loop-at g l = length l.arena.bytes - l.at
