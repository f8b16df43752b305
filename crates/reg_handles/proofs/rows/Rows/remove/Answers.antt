use Rattle.std.proofs.Common.{◌∙◌, sym}
use Rattle.reg_handles.proofs.RowOrder.{lookup_ordered, ordered_less}
use Rattle.reg_handles.proofs.rows.Rows.remove.Goals as goal

pub returns-clause-row : goal.returns-clause-row
returns-clause-row c = c.remove.ensures.value ∙ sym (lookup_ordered c.args.number c.args.self.now.by_number.entries)

pub returns-clause-rest : goal.returns-clause-rest
returns-clause-rest c = ordered_less c.args.self.now.by_number.entries c.remove.new.self.entries c.args.number c.remove.ensures.updates.0
