use Rattle.std.proofs.Common.{sym, subst}
use Rattle.reg_tree.specs.TreeKeys.{Keys}
use Rattle.reg_tree_image.specs.Loads.{TakesOwn}
use Rattle.reg_image.proofs.LoadedHives.{no-memory}
use Rattle.reg_image.proofs.loading.load_numbered.Goals as goal

pub returns-in-Err-clause-err : goal.returns-in-Err-clause-err
returns-in-Err-clause-err g c = no-memory _ _ c.in_ok-tree.field-0.tree.tree c.in_ok-tree.field-0.sequence c.in_ok-tree.ensures.ok

pub returns-in-Ok-clause-stands : goal.returns-in-Ok-clause-stands
returns-in-Ok-clause-stands g c =
    subst (λ (keys : Keys). TakesOwn keys.bins (g.R.Source.remaining c.args.input.now)) (sym c.in-Ok.ensures.keys) c.in_ok-tree.ensures.stands
