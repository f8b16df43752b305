use Rattle.std.proofs.Common.{not, sym, subst}
use Rattle.reg_tree_image.specs.declared.LoadFault.TheVariants.{Twice}
use Rattle.reg_tree_image.specs.WalkSteps.{check}
use Rattle.reg_tree_image.specs.Internal.ReaderOutcomes.{Gives}
use Rattle.reg_tree_image.proofs.Readers.FewNames.{still-few, one-known, whenever, weaker}
use Rattle.reg_tree_image.proofs.met_names.MetNames.meet.Goals as goal

pub returns-then-before-lt-FEW-clause-met : goal.returns-then-before-lt-FEW-clause-met
returns-then-before-lt-FEW-clause-met c =
    whenever c.compare.result (λ m e. still-few c.args.before.now _ c.requires c.if-before-lt-FEW.true m)

pub returns-clause-new : goal.returns-clause-new
returns-clause-new c =
    subst (λ b. Gives {X = Unit {0}} (λ _. tt) (check Twice (not b)) c.put.result) (sym (c.in_ok-gather.ensures.met c.args.name.now)) c.put.ensures.new

pub returns-clause-met : goal.returns-clause-met
returns-clause-met c =
    weaker c.put.result (one-known c.args.before.now c.args.name.now _ _ c.if-before-lt-FEW.false c.in_ok-gather.ensures.met) c.put.ensures.met
