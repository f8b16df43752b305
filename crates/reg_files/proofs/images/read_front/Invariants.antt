use Rattle.std.proofs.Common.{◌-◌, ◌≤◌, length}
use Rattle.std.specs.Io.KnownBytes.{Consumes}
use Rattle.reg_files.proofs.images.read_front.Given as goal

abbrev pub invariant-loop-part : goal.invariant-loop-part
invariant-loop-part g l = record {
  within : length l.front.items ≤ 4096;
  read : Consumes (g.R.Read.remaining l.initial.reader) (g.R.Read.remaining l.reader) l.front.items;
}

abbrev pub decreases-loop-part : goal.decreases-loop-part
decreases-loop-part g l = 4096 - length l.front.items
