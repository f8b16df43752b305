use Rattle.std.proofs.Common.{◌≡◌, ℕ, List, length}
use Rattle.std.specs.List.{position_or_len}
use Rattle.reg_script.specs.Internal.Progress.{is_feed}
use Rattle.reg_workers.specs.Internal.Readings.{IsRead, IsFront}
use Rattle.reg_workers.proofs.reading.Reading.take_bytes.Given as goal

abbrev pub invariant-loop-place : goal.invariant-loop-place
invariant-loop-place l = record {
  place : l.place ≡ position_or_len is_feed l.rest;
  taken : (hives : ℕ) (taken : List ℕ) → IsRead hives taken l.initial.self → IsFront hives taken l.bytes l.rest l.self;
}

abbrev pub decreases-loop-place : goal.decreases-loop-place
decreases-loop-place l = length l.rest
