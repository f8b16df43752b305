use Rattle.reg_notify.proofs.EndsSteps.{ends-then}
use Rattle.reg_notify.proofs.table.Table.end_all.Goals as goal

pub end_events-requires : goal.end_events-requires
end_events-requires c = let first = c.end_removed.ensures in first.ready

pub returns : goal.returns
returns c = ends-then c.args.by _ _ c.args.self.now c.end_removed.new.self c.end_events.new.self c.end_removed.ensures c.end_events.ensures
