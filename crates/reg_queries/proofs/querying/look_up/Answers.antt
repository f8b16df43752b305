use Rattle.std.proofs.Common.{refl}
use Rattle.reg_text.proofs.FailureCounts.{stays-at}
use Rattle.reg_tree_image.specs.ValuesAtPaths.{value_there}
use Rattle.reg_queries.proofs.LookSteps.{value-as-loaded}
use Rattle.reg_queries.proofs.querying.look_up.Goals as goal

pub returns-in-Err-clause-err : goal.returns-in-Err-clause-err
returns-in-Err-clause-err g c = (c.in-Err.ensures.err, refl)

pub returns-in-Ok-tell_found-clause-ok : goal.returns-in-Ok-tell_found-clause-ok
returns-in-Ok-tell_found-clause-ok g c =
    record {
      found = value_there c.in-Ok.found;
      finds = c.in-Ok.ensures.ok;
      written = c.in-Ok-tell_found.ensures.ok;
      as_loaded = λ tree loads.
          value-as-loaded tree c.args.path.now c.requires.path _ _ c.args.name.now c.args.is_raw _ _ (value_there c.in-Ok.found) c.in-Ok.ensures.ok
          c.in-Ok-tell_found.ensures.ok loads;
    }

pub returns-in-Err-tell_found-clause-err : goal.returns-in-Err-tell_found-clause-err
returns-in-Err-tell_found-clause-err g c = (value_there c.in-Ok.found, c.in-Ok.ensures.ok, c.in-Err-tell_found.ensures.err)

pub returns-in-Err-clause-failures : goal.returns-in-Err-clause-failures
returns-in-Err-clause-failures g c = (c.in-Err.ensures.failures, stays-at _)

pub returns-in-Ok-tell_found-clause-failures : goal.returns-in-Ok-tell_found-clause-failures
returns-in-Ok-tell_found-clause-failures g c = (c.in-Ok.ensures.failures, c.in-Ok-tell_found.ensures.failures)

pub returns-in-Err-tell_found-clause-failures : goal.returns-in-Err-tell_found-clause-failures
returns-in-Err-tell_found-clause-failures g c = (c.in-Ok.ensures.failures, c.in-Err-tell_found.ensures.failures)
