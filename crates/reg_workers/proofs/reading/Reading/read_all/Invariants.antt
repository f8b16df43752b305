use Rattle.std.proofs.Common.{ℕ, List, [], ◌≤◌, length}
use Rattle.std.specs.Io.KnownBytes.{Consumes}
use Rattle.reg_workers.specs.Internal.Readings.{IsRead}
use Rattle.reg_workers.proofs.reading.Reading.read_all.Given as goal

abbrev pub invariant-loop-read : goal.invariant-loop-read
invariant-loop-read g l = record {
  taken : (hives : ℕ) → IsRead hives [] l.initial.self →
      (taken : List ℕ) × Consumes (g.R.Read.remaining l.initial.reader) (g.R.Read.remaining l.reader) taken × IsRead hives taken l.self
      × (l._read ≤ length taken);
}
