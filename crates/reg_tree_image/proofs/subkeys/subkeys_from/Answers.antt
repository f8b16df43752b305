use Rattle.reg_tree_image.proofs.Readers.BegunSteps.{lists-some}
use Rattle.reg_tree_image.proofs.subkeys.subkeys_from.Goals as goal

pub returns-clause-lists : goal.returns-clause-lists
returns-clause-lists c path go seen t =
    lists-some _ path go c.args.count c.args.offset seen _ _ c.if-count-eq0.false (λ more. c.listed.ensures.lists path go more seen t)
