use Rattle.reg_names.specs.Names.{path_of}
use Rattle.reg_calls.proofs.HandleLookUps.{if_ok, joined-folded}
use Rattle.reg_calls.proofs.store.path_below.Goals as goal

pub returns-clause-folded : goal.returns-clause-folded
returns-clause-folded c = if_ok _ _ (λ text e. joined-folded (path_of text.items) _ _ e) c.join_paths.result c.join_paths.ensures.names
