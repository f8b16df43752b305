use Rattle.std.proofs.Common.{◌≡◌, ◌<◌, ◌^◌, drop}
use Rattle.reg_words.specs.ChangeWords.{number_after}
use Rattle.reg_words.proofs.typed.numbers.number.Given as goal

abbrev pub invariant-loop-byte : goal.invariant-loop-byte
invariant-loop-byte l = record {
  value : number_after l.base 0 l.digits ≡ number_after l.base l.number (drop l.byte-index l.digits);
  below : l.number < 16 ^ l.byte-index;
}
