use Rattle.std.proofs.Common.{◌≡◌, [], ◌∷◌, ◌++◌, drop}
use Rattle.reg_dotreg_reader.specs.EntryWords.{unit_bytes}
use Rattle.reg_dotreg_reader.proofs.quotes.ended_bytes.Given as goal

abbrev pub invariant-loop-unit : goal.invariant-loop-unit
invariant-loop-unit l = l.bytes.items ++ unit_bytes (drop l.unit-index l.units ++ 0 ∷ []) ≡ unit_bytes (l.units ++ 0 ∷ [])
