use Rattle.std.proofs.Common.{refl}
use Rattle.reg_text.proofs.FailureCounts.{stays-at}
use Rattle.reg_queries.proofs.tabling.export_html.Goals as goal

pub returns-in-Err-clause-err : goal.returns-in-Err-clause-err
returns-in-Err-clause-err g c = (c.in-Err.ensures.err, refl)

pub returns-in-Ok-export_html-clause-ok : goal.returns-in-Ok-export_html-clause-ok
returns-in-Ok-export_html-clause-ok g c = record { tree = c.in-Ok.tree.tree; reads = c.in-Ok.ensures.ok; written = c.in-Ok-export_html.ensures.ok }

pub returns-clause-err : goal.returns-clause-err
returns-clause-err g c = (c.in-Ok.tree.tree, c.in-Ok.ensures.ok, c.in-Err-export_html.ensures.err)

pub returns-in-Err-clause-failures : goal.returns-in-Err-clause-failures
returns-in-Err-clause-failures g c = (c.in-Err.ensures.failures, stays-at _)

pub returns-in-Ok-export_html-clause-failures : goal.returns-in-Ok-export_html-clause-failures
returns-in-Ok-export_html-clause-failures g c = (c.in-Ok.ensures.failures, c.in-Ok-export_html.ensures.failures)

pub returns-clause-failures : goal.returns-clause-failures
returns-clause-failures g c = (c.in-Ok.ensures.failures, c.in-Err-export_html.ensures.failures)
