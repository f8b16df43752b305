use Rattle.std.proofs.Common.{◌≡◌}
use Rattle.std.specs.BTreeMap.{btree_map_len}
use Rattle.reg_model.specs.Internal.TextNumbers.{goes_on}
use Rattle.reg_notify.specs.Internal.Rows.{place_of}
use Rattle.reg_notify.specs.Internal.Firing.{if_passes}
use Rattle.reg_notify.specs.Internal.States.{IsReady}
use Rattle.reg_notify.proofs.Firings.{IsPart}
use Rattle.reg_notify.proofs.table.Table.end_past.Given as goal

abbrev pub invariant-loop-number : goal.invariant-loop-number
invariant-loop-number l = record {
  ready : IsReady l.self;
  part : IsPart l.by (if_passes (λ e. goes_on l.start.items
      (place_of e.0 e.1)) l.reason) l.fn.self.rows.entries l.fn.self.sent.items l.self.rows.entries l.self.sent.items;
  queues : l.self.queues ≡ l.fn.self.queues;
}

abbrev pub decreases-loop-number : goal.decreases-loop-number
decreases-loop-number l = btree_map_len l.self.rows
