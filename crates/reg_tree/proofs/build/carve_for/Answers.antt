use Rattle.std.proofs.Common.{◌∷◌, [], Err, length, subst, ap}
use Rattle.reg_arena.specs.EachCell.{GrowsFor}
use Rattle.reg_arena.specs.NewBin.{PassesLimit}
use Rattle.reg_arena.specs.NewCells.{total_of}
use Rattle.reg_tree.proofs.BuildKey.ClassCarved.{near-limit, one-class}
use Rattle.reg_tree.proofs.DescribeKey.SecurityJoined.{which-fault}
use Rattle.reg_tree.proofs.build.carve_for.Goals as goal

pub returns-clause-full : goal.returns-clause-full
returns-clause-full c = λ full.
    near-limit _ (length c.args.class.now) c.requires
    (subst (λ size. PassesLimit c.args.arena.now.bytes (total_of (size ∷ []))) c.in-Some.ensures.1 (c.in-Err.ensures.full.0 (ap (λ f. Err f) (which-fault _ _ full))).1)

pub returns-in-Ok-clause-growth : goal.returns-in-Ok-clause-growth
returns-in-Ok-clause-growth c =
    subst (GrowsFor c.args.arena.now.bytes c.carve_change.new.self.bytes) (one-class c.args.class.now c.in-Some.size c.in-Some.ensures) c.in-Ok.ensures.growth
