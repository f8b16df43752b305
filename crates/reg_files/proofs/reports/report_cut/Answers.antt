use Rattle.std.proofs.Common.{◌∙◌, inl, inr, refl, sym}
use Rattle.reg_files.proofs.reports.report_cut.Goals as goal

pub returns-then-is_closed : goal.returns-then-is_closed
returns-then-is_closed g c = inr (inr (sym c.is_closed.ensures ∙ c.if-is_closed.true, refl))

pub returns-in-Err : goal.returns-in-Err
returns-in-Err g c = inr (inl c.say-in-Err.ensures)
