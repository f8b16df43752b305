use Rattle.std.proofs.Common.{codes, inl}
use Rattle.reg_files.proofs.reports.report.Goals as goal

pub returns-in-Err : goal.returns-in-Err
returns-in-Err g c = inl (codes "8", c.say-in-Err.ensures)
