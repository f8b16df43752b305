use Rattle.reg_notify.proofs.NewTables.{new-settled}
use Rattle.reg_notify.proofs.table.Table.new.Goals as goal

pub returns-clause-settled : goal.returns-clause-settled
returns-clause-settled c =
    let q = c.in_ok-queues.ensures in
    new-settled (record {
      rows = c.new.result;
      places = c.new-2.result;
      handles = c.new-3.result;
      marks = c.new-4.result;
      sent = c.new-5.result;
      queues = c.in_ok-queues.queues;
    }) c.new.ensures.empty c.new-2.ensures c.new-3.ensures c.new-5.ensures.items
    c.new-5.ensures.len q.len q.told q.pending
