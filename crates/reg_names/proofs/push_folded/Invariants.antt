use Rattle.std.proofs.Common.{◌≡◌, ◌++◌, take}
use Rattle.reg_names.specs.Names.{folded}
use Rattle.reg_names.proofs.push_folded.Given as goal

abbrev pub invariant-loop-byte : goal.invariant-loop-byte
invariant-loop-byte l = l.text.items ≡ l.initial.text.items ++ folded (take l.byte-index l.bytes)
