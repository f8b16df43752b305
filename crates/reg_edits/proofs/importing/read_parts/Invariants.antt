use Rattle.std.proofs.Common.{◌^◌, ◌-◌, ◌<◌, length, vec_len}
use Rattle.std.specs.Io.KnownBytes.{Consumes}
use Rattle.reg_text.specs.Failures.{Stays}
use Rattle.reg_edits.proofs.importing.read_parts.Given as goal

abbrev pub invariant-loop-bytes : goal.invariant-loop-bytes
invariant-loop-bytes g l = record {
  room : 0 < length l.part;
  read : Consumes (g.R.Source.remaining l.initial.input) (g.R.Source.remaining l.input) l.bytes.items;
  stays : Stays (g.R.Source.failures l.initial.input) (g.R.Source.failures l.input);
}

abbrev pub decreases-loop-bytes : goal.decreases-loop-bytes
decreases-loop-bytes g l = 2 ^ 64 - vec_len l.bytes
