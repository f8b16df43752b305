use Rattle.std.proofs.Common.{◌≡◌, ◌++◌, drop, map}
use Rattle.reg_words.specs.ChangeWords.{turned}
use Rattle.reg_words.proofs.typed.names.all_turned.Given as goal

abbrev pub invariant-loop-byte : goal.invariant-loop-byte
invariant-loop-byte l = l.bytes.items ++ map turned (drop l.byte-index l.word) ≡ map turned l.word
