use Rattle.reg_handles.proofs.RowOrder.{ordered_none}
use Rattle.reg_handles.proofs.rows.Rows.new.Goals as goal

pub returns : goal.returns
returns c = rw c.new.ensures.empty ordered_none
