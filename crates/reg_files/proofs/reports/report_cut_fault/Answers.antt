use Rattle.std.proofs.Common.{codes, inl}
use Rattle.reg_files.proofs.Outcomes.{cut_reported}
use Rattle.reg_files.proofs.reports.report_cut_fault.Goals as goal

pub returns-in-Ok : goal.returns-in-Ok
returns-in-Ok g c = cut_reported _ _ _ _ _ _ c.report_cut.ensures

pub returns-in-Err : goal.returns-in-Err
returns-in-Err g c = inl (codes "8", c.say.ensures)
