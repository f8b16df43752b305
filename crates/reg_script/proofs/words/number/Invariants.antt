use Rattle.std.proofs.Common.{◌≡◌, drop}
use Rattle.std.specs.Str.{all_ascii_digits}
use Rattle.std.specs.Str.Parse.{digits_value, digits_value_after}
use Rattle.reg_script.proofs.words.number.Given as goal

abbrev pub invariant-loop-byte : goal.invariant-loop-byte
invariant-loop-byte l = record {
  form : all_ascii_digits (drop l.byte-index l.word) ≡ all_ascii_digits l.word;
  value : digits_value_after 10 l.number (drop l.byte-index l.word) ≡ digits_value 10 l.word;
}
