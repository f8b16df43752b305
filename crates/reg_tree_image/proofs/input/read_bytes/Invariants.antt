use Rattle.std.proofs.Common.{◌-◌, ◌≤◌, vec_len}
use Rattle.std.specs.Io.KnownBytes.{Consumes}
use Rattle.reg_text.specs.Failures.{Stays}
use Rattle.reg_tree_image.proofs.input.read_bytes.Given as goal

abbrev pub invariant-loop-bytes : goal.invariant-loop-bytes
invariant-loop-bytes g l = record {
  within : vec_len l.bytes ≤ l.size;
  read : Consumes (g.R.Source.remaining l.initial.input) (g.R.Source.remaining l.input) l.bytes.items;
  stays : Stays (g.R.Source.failures l.initial.input) (g.R.Source.failures l.input);
}

abbrev pub decreases-loop-bytes : goal.decreases-loop-bytes
decreases-loop-bytes g l = l.size - vec_len l.bytes
