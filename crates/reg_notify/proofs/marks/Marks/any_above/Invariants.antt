use Rattle.std.proofs.Common.{◌≡◌, ◌<◌, drop}
use Rattle.reg_notify.specs.declared.marks.TheConstants.{MARKS}
use Rattle.reg_notify.specs.Internal.Marks.{any_from}
use Rattle.reg_notify.proofs.marks.Marks.any_above.Given as goal

abbrev pub invariant-loop-byte : goal.invariant-loop-byte
invariant-loop-byte l = record {
  any : any_from (drop l.byte-index l.text) l.self.slots.items l.slot ≡ any_from l.text l.self.slots.items 0;
  below : l.slot < MARKS;
}
