use Rattle.std.proofs.Common.{refl}
use Rattle.reg_text.proofs.FailureCounts.{stays-at}
use Rattle.reg_queries.proofs.detailing.list_long.Goals as goal

pub returns-in-Err-clause-err : goal.returns-in-Err-clause-err
returns-in-Err-clause-err g c = (c.in-Err.ensures.err, refl)

pub returns-in-Ok-list_long-clause-ok : goal.returns-in-Ok-list_long-clause-ok
returns-in-Ok-list_long-clause-ok g c = record { tree = c.in-Ok.tree.tree; reads = c.in-Ok.ensures.ok; written = c.in-Ok-list_long.ensures.ok }

pub returns-clause-err : goal.returns-clause-err
returns-clause-err g c = (c.in-Ok.tree.tree, c.in-Ok.ensures.ok, c.in-Err-list_long.ensures.err)

pub returns-in-Err-clause-failures : goal.returns-in-Err-clause-failures
returns-in-Err-clause-failures g c = (c.in-Err.ensures.failures, stays-at _)

pub returns-in-Ok-list_long-clause-failures : goal.returns-in-Ok-list_long-clause-failures
returns-in-Ok-list_long-clause-failures g c = (c.in-Ok.ensures.failures, c.in-Ok-list_long.ensures.failures)

pub returns-clause-failures : goal.returns-clause-failures
returns-clause-failures g c = (c.in-Ok.ensures.failures, c.in-Err-list_long.ensures.failures)
