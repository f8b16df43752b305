use Rattle.std.proofs.Common.{◌≡◌, ◌<◌, ℕ, length, get_or}
use Rattle.reg_dotreg_reader.proofs.encoding.ascii_units.Given as goal

abbrev pub invariant-loop-index : goal.invariant-loop-index
invariant-loop-index l = record {
  long : length l.units.items ≡ length l.bytes;
  same : (k : ℕ) → k < l.index → get_or l.units.items k 0 ≡ get_or l.bytes k 0;
}
