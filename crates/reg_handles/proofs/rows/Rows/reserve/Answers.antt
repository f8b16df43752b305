use Rattle.reg_handles.proofs.RowOrder.{ordered_same}
use Rattle.reg_handles.proofs.rows.Rows.reserve.Goals as goal

pub returns-clause-rows : goal.returns-clause-rows
returns-clause-rows c = ordered_same c.args.self.now.by_number.entries c.reserve.new.self.entries c.reserve.ensures.entries.2
