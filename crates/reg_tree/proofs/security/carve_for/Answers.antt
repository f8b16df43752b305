use Rattle.std.proofs.Common.{◌∷◌, [], Err, subst, ap}
use Rattle.reg_arena.specs.EachCell.{GrowsFor}
use Rattle.reg_arena.specs.NewBin.{PassesLimit}
use Rattle.reg_arena.specs.NewCells.{total_of}
use Rattle.reg_tree.specs.Internal.DescriptorChange.{IsExpected}
use Rattle.reg_tree.proofs.DescribeKey.SecurityJoined.{near-limit, which-fault}
use Rattle.reg_tree.proofs.security.carve_for.Goals as goal

pub returns-clause-full : goal.returns-clause-full
returns-clause-full c = λ full.
    let size = (subst (IsExpected c.args.securities.now _ c.args.descriptor.now) c.in-Some.is c.in-Ok.ensures.ok).0 in
    near-limit _ _ c.requires.1 (subst (λ size. PassesLimit c.args.arena.now.bytes (total_of (size ∷ []))) size (c.in-Err.ensures.full.0 (ap (λ f. Err f) (which-fault _ _ full))).1)

pub returns-in-Ok-carve_change-clause-growth : goal.returns-in-Ok-carve_change-clause-growth
returns-in-Ok-carve_change-clause-growth c =
    let size = (subst (IsExpected c.args.securities.now _ c.args.descriptor.now) c.in-Some.is c.in-Ok.ensures.ok).0 in
    subst (λ size. GrowsFor c.args.arena.now.bytes c.carve_change.new.self.bytes (size ∷ [])) size c.in-Ok-carve_change.ensures.growth
