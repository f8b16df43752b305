use Rattle.std.proofs.Common.{◌≡◌, ◌++◌, length, Some}
use Rattle.reg_script.specs.LineWords.{unescaped, name_of}
use Rattle.reg_script.proofs.words.name.Given as goal

abbrev pub invariant-loop-byte : goal.invariant-loop-byte
invariant-loop-byte l = name_of l.fn.word ≡ Some (l.name.items ++ unescaped l.rest)

abbrev pub decreases-loop-byte : goal.decreases-loop-byte
decreases-loop-byte l = length l.rest
