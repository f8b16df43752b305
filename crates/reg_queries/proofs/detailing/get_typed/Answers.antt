use Rattle.std.proofs.Common.{refl}
use Rattle.reg_text.proofs.FailureCounts.{stays-at}
use Rattle.reg_queries.proofs.detailing.get_typed.Goals as goal

pub returns-in-Err-clause-err : goal.returns-in-Err-clause-err
returns-in-Err-clause-err g c = (c.in-Err.ensures.err, refl)

pub returns-in-Ok-get_typed-clause-ok : goal.returns-in-Ok-get_typed-clause-ok
returns-in-Ok-get_typed-clause-ok g c = record { tree = c.in-Ok.tree.tree; reads = c.in-Ok.ensures.ok; written = c.in-Ok-get_typed.ensures.ok }

pub returns-clause-err : goal.returns-clause-err
returns-clause-err g c = (c.in-Ok.tree.tree, c.in-Ok.ensures.ok, c.in-Err-get_typed.ensures.err)

pub returns-in-Err-clause-failures : goal.returns-in-Err-clause-failures
returns-in-Err-clause-failures g c = (c.in-Err.ensures.failures, stays-at _)

pub returns-in-Ok-get_typed-clause-failures : goal.returns-in-Ok-get_typed-clause-failures
returns-in-Ok-get_typed-clause-failures g c = (c.in-Ok.ensures.failures, c.in-Ok-get_typed.ensures.failures)

pub returns-clause-failures : goal.returns-clause-failures
returns-clause-failures g c = (c.in-Ok.ensures.failures, c.in-Err-get_typed.ensures.failures)
