use Rattle.std.proofs.Common.{ap, ◌∙◌, arith}
use Rattle.reg_tree.specs.CellSizes.{planned_sizes}
use Rattle.reg_tree.proofs.Invariant.KeyOfTree.{key_there}
use Rattle.reg_tree.proofs.LengthenList.SubkeyRoom.{sizes-none, sizes-some}
use Rattle.reg_tree.proofs.PathWalk.SubkeysFound.{some_subkeys}
use Rattle.reg_tree.proofs.lengthening.plan.Goals as goal

pub subkeys_list-list-requires : goal.subkeys_list-list-requires
subkeys_list-list-requires c = key_there _ _ c.requires

pub returns-then-list-eq0 : goal.returns-then-list-eq0
returns-then-list-eq0 c =
    let none = c.if-list-eq0.true in
    sizes-none _ _ _ _ c.args.more (key_there _ _ c.requires) c.subkeys_list-list.ensures (omega (arith, none))

pub plan_longer-requires-clause-subkeys : goal.plan_longer-requires-clause-subkeys
plan_longer-requires-clause-subkeys c = some_subkeys _ _ c.requires _ _ c.subkeys_list-list.ensures

pub returns : goal.returns
returns c =
    let some = c.if-list-eq0.false in
    ap planned_sizes c.plan_longer.ensures
    ∙ sizes-some _ _ _ _ c.args.more (key_there _ _ c.requires) c.subkeys_list-list.ensures (omega (arith, some))
