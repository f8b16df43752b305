use Rattle.std.proofs.Common.{◌≡◌, ◌+◌, ◌≤◌}
use Rattle.std.specs.Prelude.{vec_len, vec_capacity}
use Rattle.reg_model.specs.declared.notice.Reason.TheVariants.{Matched}
use Rattle.reg_notify.specs.Internal.Hits.{any_class}
use Rattle.reg_notify.specs.Internal.Firing.{if_passes}
use Rattle.reg_notify.specs.Internal.States.{Ends}
use Rattle.reg_notify.proofs.table.Table.end_hit.Given as goal

abbrev pub invariant-loop-class : goal.invariant-loop-class
invariant-loop-class l = record {
  ends : Ends l.by (if_passes (any_class l.class l.fn.text.items l.bits l.itself) Matched) l.fn.self l.self;
  text : l.text.items ≡ l.fn.text.items;
  room : vec_len l.text + 2 ≤ vec_capacity l.text;
}
