use Rattle.std.proofs.Common.{◌≡◌, ◌++◌, drop}
use Rattle.std.specs.List.{list_all}
use Rattle.reg_dotreg_reader.specs.EntryWords.{unit_bytes, is_plain}
use Rattle.reg_dotreg_reader.proofs.quotes.plain_bytes.Given as goal

abbrev pub invariant-loop-byte : goal.invariant-loop-byte
invariant-loop-byte l = record {
  taken : l.units.items ++ unit_bytes (drop l.byte-index l.bytes) ≡ unit_bytes l.bytes;
  good : list_all is_plain l.bytes ≡ list_all is_plain (drop l.byte-index l.bytes);
}
