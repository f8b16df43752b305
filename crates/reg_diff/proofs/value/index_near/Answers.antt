use Rattle.reg_diff.proofs.NamedPlaces.{placed}
use Rattle.reg_diff.proofs.value.index_near.Goals as goal

pub returns-then-has_name_at : goal.returns-then-has_name_at
returns-then-has_name_at c p at =
    placed c.args.tree.now.tree p c.args.name.now c.args.front c.root-root.ensures.tree (c.has_name_at.ensures c.if-has_name_at.true p at)

pub returns-then-has_name_at-2 : goal.returns-then-has_name_at-2
returns-then-has_name_at-2 c p at =
    placed c.args.tree.now.tree p c.args.name.now c.args.back c.root-root.ensures.tree (c.has_name_at-2.ensures c.if-has_name_at-2.true p at)
