use Rattle.std.proofs.Common.{refl}
use Rattle.reg_text.proofs.FailureCounts.{stays-at}
use Rattle.reg_tree_image.specs.KeysAtPaths.{listing_there}
use Rattle.reg_queries.proofs.LookSteps.{told-as-loaded}
use Rattle.reg_queries.proofs.listing.look_up_key.Goals as goal

pub returns-in-Err-clause-err : goal.returns-in-Err-clause-err
returns-in-Err-clause-err g c = (c.in-Err.ensures.err, refl)

pub returns-in-Ok-tell_key-clause-ok : goal.returns-in-Ok-tell_key-clause-ok
returns-in-Ok-tell_key-clause-ok g c =
    record {
      found = listing_there c.in-Ok.found;
      lists = c.in-Ok.ensures.ok;
      written = c.in-Ok-tell_key.ensures.ok;
      as_loaded = λ tree loads.
          told-as-loaded tree c.args.path.now c.requires.path _ _ _ _ (listing_there c.in-Ok.found) c.in-Ok.ensures.ok c.in-Ok-tell_key.ensures.ok loads;
    }

pub returns-in-Err-tell_key-clause-err : goal.returns-in-Err-tell_key-clause-err
returns-in-Err-tell_key-clause-err g c = (listing_there c.in-Ok.found, c.in-Ok.ensures.ok, c.in-Err-tell_key.ensures.err)

pub returns-in-Err-clause-failures : goal.returns-in-Err-clause-failures
returns-in-Err-clause-failures g c = (c.in-Err.ensures.failures, stays-at _)

pub returns-in-Ok-tell_key-clause-failures : goal.returns-in-Ok-tell_key-clause-failures
returns-in-Ok-tell_key-clause-failures g c = (c.in-Ok.ensures.failures, c.in-Ok-tell_key.ensures.failures)

pub returns-in-Err-tell_key-clause-failures : goal.returns-in-Err-tell_key-clause-failures
returns-in-Err-tell_key-clause-failures g c = (c.in-Ok.ensures.failures, c.in-Err-tell_key.ensures.failures)
