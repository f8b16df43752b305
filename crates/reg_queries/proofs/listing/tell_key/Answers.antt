use Rattle.std.proofs.Common.{ap, map, ◌∙◌}
use Rattle.reg_tree_image.specs.KeysAtPaths.{listed_in, names_in, listing_there}
use Rattle.reg_queries.proofs.LookSteps.{found-listing}
use Rattle.reg_queries.proofs.listing.tell_key.Goals as goal

pub returns-in-Ok-clause-ok : goal.returns-in-Ok-clause-ok
returns-in-Ok-clause-ok g c = (
  record { values = map listed_in c.deref.result.now; subkeys = names_in c.deref-in-Key.result.now },
  ap listing_there c.in-Key.is ∙ found-listing _ _ _ _ c.deref.ensures.value c.deref-in-Key.ensures.value,
  c.in-Ok.ensures.ok,
)

pub returns-clause-err : goal.returns-clause-err
returns-clause-err g c = (
  record { values = map listed_in c.deref.result.now; subkeys = names_in c.deref-in-Key.result.now },
  ap listing_there c.in-Key.is ∙ found-listing _ _ _ _ c.deref.ensures.value c.deref-in-Key.ensures.value,
  c.in-Err.ensures.err,
)
