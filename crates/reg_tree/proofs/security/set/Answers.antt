use Rattle.std.proofs.Common.{sym, subst}
use Rattle.reg_tree.specs.CellSizes.{LacksRoom}
use Rattle.reg_tree.proofs.DescribeKey.SecurityCarved.{describable, grows, is-changed, lengths-stay, makes, sizes-one}
use Rattle.reg_tree.proofs.security.set.Goals as goal

pub returns-in-Err-clause-space : goal.returns-in-Err-clause-space
returns-in-Err-clause-space c = λ t same full.
    let lacks = c.in-Err.ensures.space full in
    subst (LacksRoom c.args.arena.now) (sym (sizes-one c.args.arena.now c.args.arena.now c.args.securities.now c.args.securities.now c.args.descriptor.now c.args.key t same lacks.0)) lacks.1

pub describe-requires-clause-here : goal.describe-requires-clause-here
describe-requires-clause-here c = describable _ c.carve_for.new.arena _ _ _ _ c.requires.here.0 c.requires.here.1 c.in-Ok.cell c.in-Ok.ensures.ok

pub returns-clause-ok : goal.returns-clause-ok
returns-clause-ok c = λ t same.
    is-changed _ c.carve_for.new.arena _ _ _ _ t same c.in-Ok.cell c.in-Ok.ensures.ok c.describe.new.arena _ _
    (c.describe.ensures.described (describable _ c.carve_for.new.arena _ _ _ _ t same c.in-Ok.cell c.in-Ok.ensures.ok))

pub returns-clause-lengths : goal.returns-clause-lengths
returns-clause-lengths c = λ t same.
    lengths-stay _ c.carve_for.new.arena _ _ _ _ t same c.in-Ok.cell c.in-Ok.ensures.ok c.describe.new.arena _ _
    (c.describe.ensures.described (describable _ c.carve_for.new.arena _ _ _ _ t same c.in-Ok.cell c.in-Ok.ensures.ok))

pub returns-clause-cells : goal.returns-clause-cells
returns-clause-cells c = λ t same.
    makes _ c.carve_for.new.arena _ _ _ _ t same c.in-Ok.cell c.in-Ok.ensures.ok c.describe.new.arena _ _
    (c.describe.ensures.described (describable _ c.carve_for.new.arena _ _ _ _ t same c.in-Ok.cell c.in-Ok.ensures.ok))

pub returns-clause-growth : goal.returns-clause-growth
returns-clause-growth c = λ t same.
    grows _ c.carve_for.new.arena _ _ _ _ t same c.in-Ok.cell c.in-Ok.ensures.ok c.describe.new.arena c.describe.ensures.long c.in-Ok.ensures.growth
