use Rattle.std.proofs.Common.{ap}
use Rattle.reg_tree_image.specs.ValuesAtPaths.{value_there}
use Rattle.reg_queries.proofs.querying.tell_found.Goals as goal

pub returns-in-Ok-clause-ok : goal.returns-in-Ok-clause-ok
returns-in-Ok-clause-ok g c = (
  record { name = c.in-Value.name.items; kind = c.in-Value.kind; bytes = c.in-Value.bytes.items },
  ap value_there c.in-Value.is,
  c.in-Ok.ensures.ok c.in-Value.name.items,
)

pub returns-clause-err : goal.returns-clause-err
returns-clause-err g c = (
  record { name = c.in-Value.name.items; kind = c.in-Value.kind; bytes = c.in-Value.bytes.items },
  ap value_there c.in-Value.is,
  c.in-Err.ensures.err c.in-Value.name.items,
)
