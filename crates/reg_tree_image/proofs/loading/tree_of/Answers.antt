use Rattle.std.proofs.Common.{List, ℕ, subst}
use Rattle.reg_tree_image.specs.Images.{nothing, bins_walk}
use Rattle.reg_tree_image.specs.Internal.CheckedStacks.{Meets}
use Rattle.reg_tree_image.proofs.Devices.OwnLoads.{own-memory}
use Rattle.reg_tree_image.proofs.loading.tree_of.Goals as goal

pub returns-in-Err-clause-own : goal.returns-in-Err-clause-own
returns-in-Err-clause-own c = λ taken five arena whole.
    own-memory c.args.bins.items c.args.block.root c.args.block.minor c.in-Err.met five whole
    (subst (λ (xs : List ℕ). Meets c.in-Err.met (bins_walk xs c.args.block.minor c.args.block.root nothing)) c.as_slice.ensures.value c.in-Err.ensures.err)
