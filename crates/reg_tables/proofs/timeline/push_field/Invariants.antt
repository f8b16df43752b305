use Rattle.std.proofs.Common.{◌≡◌, ◌++◌, take}
use Rattle.reg_tables.specs.Timelines.{field_text}
use Rattle.reg_tables.proofs.timeline.push_field.Given as goal

abbrev pub invariant-loop-byte : goal.invariant-loop-byte
invariant-loop-byte l = l.bytes.items ≡ l.initial.bytes.items ++ field_text (take l.byte-index l.text)
