use Rattle.std.proofs.Common.{◌≡◌, ◌++◌, length}
use Rattle.reg_words.specs.ChangeWords.{unescaped as unescaped_of}
use Rattle.reg_words.proofs.typed.names.unescaped.Given as goal

abbrev pub invariant-loop-byte : goal.invariant-loop-byte
invariant-loop-byte l = unescaped_of l.text ≡ l.bytes.items ++ unescaped_of l.rest

abbrev pub decreases-loop-byte : goal.decreases-loop-byte
decreases-loop-byte l = length l.rest
