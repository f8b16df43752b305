use Rattle.std.proofs.Common.{◌∙◌, sym}
use Rattle.reg_handles.proofs.RowOrder.{length_ordered}
use Rattle.reg_handles.proofs.rows.Rows.len.Goals as goal

pub returns-clause-len : goal.returns-clause-len
returns-clause-len c = c.len.ensures.len ∙ sym (length_ordered c.args.self.now.by_number.entries c.len.ensures.unique)
