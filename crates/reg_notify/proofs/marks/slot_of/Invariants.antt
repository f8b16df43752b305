use Rattle.std.proofs.Common.{◌≡◌, ◌<◌, drop}
use Rattle.reg_notify.specs.declared.marks.TheConstants.{MARKS}
use Rattle.reg_notify.specs.Internal.Marks.{slot_from, slot_of}
use Rattle.reg_notify.proofs.marks.slot_of.Given as goal

abbrev pub invariant-loop-byte : goal.invariant-loop-byte
invariant-loop-byte l = record { slot : slot_from (drop l.byte-index l.text) l.slot ≡ slot_of l.text; below : l.slot < MARKS }
