use Rattle.std.proofs.Common.{◌≡◌, ◌-◌, false, take}
use Rattle.reg_calls.specs.HiveView.{view_of}
use Rattle.reg_edits.specs.Edits.{are_changed}
use Rattle.reg_edits.proofs.edits.is_changed.Given as goal

abbrev pub invariant-loop-number : goal.invariant-loop-number
invariant-loop-number g l = are_changed (take (l.number - (view_of l.hive).base) (view_of l.hive).journal) ≡ false
