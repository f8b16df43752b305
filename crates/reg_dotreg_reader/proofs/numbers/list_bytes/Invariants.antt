use Rattle.std.proofs.Common.{◌≡◌, ◌≤◌, length}
use Rattle.std.specs.List.{slice_split}
use Rattle.reg_dotreg_reader.specs.EntryWords.{pieces_bytes, is_comma, list_bytes}
use Rattle.reg_dotreg_reader.proofs.DigitLists.{bytes_before}
use Rattle.reg_dotreg_reader.proofs.numbers.list_bytes.Given as goal

abbrev pub invariant-loop-comma : goal.invariant-loop-comma
invariant-loop-comma l = record {
  so_far : list_bytes l.list ≡ bytes_before l.bytes.items (pieces_bytes (slice_split is_comma l.rest));
  within : length l.rest ≤ length l.list;
}

abbrev pub decreases-loop-comma : goal.decreases-loop-comma
decreases-loop-comma l = length l.rest
