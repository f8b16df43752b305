use Rattle.std.proofs.Common.{◌-◌, ◌≤◌, length, take}
use Rattle.std.specs.Io.KnownBytes.{Consumes}
use Rattle.reg_text.specs.Failures.{Stays}
use Rattle.reg_tree_image.proofs.input.fill.Given as goal

abbrev pub invariant-loop-filled : goal.invariant-loop-filled
invariant-loop-filled g l = record {
  within : l.filled ≤ length l.buffer;
  read : Consumes (g.R.Source.remaining l.initial.input) (g.R.Source.remaining l.input) (take l.filled l.buffer);
  stays : Stays (g.R.Source.failures l.initial.input) (g.R.Source.failures l.input);
}

abbrev pub decreases-loop-filled : goal.decreases-loop-filled
decreases-loop-filled g l = length l.initial.buffer - l.filled
