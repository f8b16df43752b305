use Rattle.reg_handles.proofs.RowOrder.{ordered_push}
use Rattle.reg_handles.proofs.rows.Rows.push.Goals as goal

pub returns : goal.returns
returns c = ordered_push c.args.self.now.by_number.entries c.insert.new.self.entries c.args.number c.args.row c.requires.above c.in-Ok.ensures.updates.0
