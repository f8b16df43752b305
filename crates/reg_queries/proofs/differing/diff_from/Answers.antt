use Rattle.std.proofs.Common.{refl}
use Rattle.reg_text.proofs.FailureCounts.{stays-at}
use Rattle.reg_queries.proofs.differing.diff_from.Goals as goal

pub returns-in-Err-clause-err : goal.returns-in-Err-clause-err
returns-in-Err-clause-err g c = (c.in-Err.ensures.err, refl)

pub returns-in-Ok-diff-clause-ok : goal.returns-in-Ok-diff-clause-ok
returns-in-Ok-diff-clause-ok g c = record { tree = c.in-Ok.tree.tree; reads = c.in-Ok.ensures.ok; compared = c.in-Ok-diff.ensures.ok }

pub returns-in-Err-NoOldKey-clause-err : goal.returns-in-Err-NoOldKey-clause-err
returns-in-Err-NoOldKey-clause-err g c =
    (c.in-Ok.tree.tree, c.in-Ok.ensures.ok, rw c.in-Err-NoOldKey.field-0-is at c.in-Err-NoOldKey.ensures.err)

pub returns-in-Err-NoNewKey-clause-err : goal.returns-in-Err-NoNewKey-clause-err
returns-in-Err-NoNewKey-clause-err g c =
    (c.in-Ok.tree.tree, c.in-Ok.ensures.ok, rw c.in-Err-NoNewKey.field-0-is at c.in-Err-NoNewKey.ensures.err)

pub returns-clause-err : goal.returns-clause-err
returns-clause-err g c = (c.in-Ok.tree.tree, c.in-Ok.ensures.ok, rw c.in-Err-Stopped.field-0-is at c.in-Err-Stopped.ensures.err)

pub returns-in-Err-clause-failures : goal.returns-in-Err-clause-failures
returns-in-Err-clause-failures g c = (c.in-Err.ensures.failures, stays-at _)

pub returns-in-Ok-diff-clause-failures : goal.returns-in-Ok-diff-clause-failures
returns-in-Ok-diff-clause-failures g c = (c.in-Ok.ensures.failures, c.in-Ok-diff.ensures.failures)

pub returns-clause-failures : goal.returns-clause-failures
returns-clause-failures g c = (c.in-Ok.ensures.failures, rw c.in-Err-Stopped.field-0-is at c.in-Err-Stopped.ensures.failures)
