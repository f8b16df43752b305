use Rattle.std.proofs.Common.{[]}
use Rattle.reg_tree.proofs.BuildKey.BuiltCells.{class-makes, class-stays}
use Rattle.reg_tree.proofs.BuildKey.ClassCarved.{markable, dressed, dressed-lengths}
use Rattle.reg_tree.proofs.InsertKey.CreatePathMade.{growth-then}
use Rattle.reg_tree.proofs.build.dress.Goals as goal

pub mark-requires-clause-here : goal.mark-requires-clause-here
mark-requires-clause-here c = ([], markable _ _ _ _ _ c.requires.bare c.requires.here.0 c.requires.here.1 c.requires.class _ c.in-Ok.ensures.ok)

pub returns-clause-ok : goal.returns-clause-ok
returns-clause-ok c = λ t above.
    dressed _ _ _ _ _ c.requires.bare t above c.requires.class _ c.in-Ok.ensures.ok _ c.args.marks
    (c.mark.ensures.marked [] (markable _ _ _ _ _ c.requires.bare t above c.requires.class _ c.in-Ok.ensures.ok))

pub returns-clause-cells : goal.returns-clause-cells
returns-clause-cells c = class-makes c.args.arena.now c.carve_for.new.arena c.mark.new.arena c.args.class.now _ c.in-Ok.ensures.ok c.mark.ensures.cells c.mark.ensures.long

pub returns-clause-stay : goal.returns-clause-stay
returns-clause-stay c = class-stays c.args.arena.now c.carve_for.new.arena c.mark.new.arena c.args.class.now _ c.in-Ok.ensures.ok c.mark.ensures.cells c.mark.ensures.long

pub returns-clause-growth : goal.returns-clause-growth
returns-clause-growth c = growth-then _ _ _ _ c.mark.ensures.long c.in-Ok.ensures.growth

pub returns-clause-lengths : goal.returns-clause-lengths
returns-clause-lengths c = λ t above.
    dressed-lengths _ _ _ _ _ c.requires.bare t above c.requires.class _ c.in-Ok.ensures.ok _ c.args.marks
    (c.mark.ensures.marked [] (markable _ _ _ _ _ c.requires.bare t above c.requires.class _ c.in-Ok.ensures.ok))
    (c.mark.ensures.lengths [] (markable _ _ _ _ _ c.requires.bare t above c.requires.class _ c.in-Ok.ensures.ok))
