use Rattle.std.proofs.Common.{refl}
use Rattle.reg_text.proofs.FailureCounts.{stays-at}
use Rattle.reg_queries.proofs.changing.export_from.Goals as goal

pub returns-in-Err-clause-err : goal.returns-in-Err-clause-err
returns-in-Err-clause-err g c = (c.in-Err.ensures.err, refl)

pub returns-in-Ok-export_changes-clause-ok : goal.returns-in-Ok-export_changes-clause-ok
returns-in-Ok-export_changes-clause-ok g c = record {
  tree = c.in-Ok.tree.tree;
  reads = c.in-Ok.ensures.ok;
  is_tree = c.root.ensures.tree;
  limits = c.root.ensures.limits;
  of_bytes = c.hold_bytes.ensures;
  written = c.in-Ok-export_changes.ensures.ok;
}

pub returns-clause-err : goal.returns-clause-err
returns-clause-err g c = (c.in-Ok.tree.tree, c.in-Ok.ensures.ok, c.in-Err-export_changes.ensures.err)

pub returns-in-Err-clause-failures : goal.returns-in-Err-clause-failures
returns-in-Err-clause-failures g c = (c.in-Err.ensures.failures, stays-at _)

pub returns-in-Ok-export_changes-clause-failures : goal.returns-in-Ok-export_changes-clause-failures
returns-in-Ok-export_changes-clause-failures g c = (c.in-Ok.ensures.failures, c.in-Ok-export_changes.ensures.failures)

pub returns-clause-failures : goal.returns-clause-failures
returns-clause-failures g c = (c.in-Ok.ensures.failures, c.in-Err-export_changes.ensures.failures)
