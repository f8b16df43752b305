use Rattle.std.proofs.Common.{◌∙◌, sym, subst, IsSome, List, ℕ}
use Rattle.std.specs.List.{AllByRecursion}
use Rattle.reg_arena.specs.Cells.{cell_at}
use Rattle.reg_records.specs.KeySecurities.{security_at}
use Rattle.reg_tree_image.proofs.WalkedBack.WholeBins.{keys-read, securities-read}
use Rattle.reg_tree_image.proofs.whole.ring_of_keys.Goals as goal

pub securities_of-requires : goal.securities_of-requires
securities_of-requires c = keys-read c.args.bins.now c.args.root c.args.keys.now c.requires

pub ring_of-requires : goal.ring_of-requires
ring_of-requires c =
    subst (λ (os : List ℕ). AllByRecursion (λ o. IsSome (security_at (cell_at c.args.bins.now) o)) os) (sym (c.as_slice.ensures.value ∙ c.in-Ok.ensures))
    (securities-read c.args.bins.now c.args.root c.args.keys.now c.requires)
