use Rattle.std.proofs.Common.{◌≡◌, ◌++◌, drop, string_bytes}
use Rattle.reg_text.specs.Texts.{escaped}
use Rattle.reg_text.proofs.write_escaped.Given as goal

abbrev pub invariant-loop-byte : goal.invariant-loop-byte
invariant-loop-byte l = string_bytes l.text ++ escaped (drop l.byte-index l.name) ≡ string_bytes l.initial.text ++ escaped l.name
