use Rattle.std.proofs.Common.{arith}
use Rattle.reg_tree.proofs.InsertKey.PathCarve.{parent_there}
use Rattle.reg_tree.proofs.InsertKey.TooManyKeys.{many-below}
use Rattle.reg_tree.proofs.make.pass_limits.Goals as goal

pub subkeys_list-requires : goal.subkeys_list-requires
subkeys_list-requires c = parent_there _ _ c.requires.here

pub returns-clause-many : goal.returns-clause-many
returns-clause-many c = λ t.
    let counted = c.count_names-count.ensures in
    let few = c.if-count-gt-MADE_LIMIT.false in
    let shallow = c.if-parent-count.false in
    many-below _ _ _ _ c.subkeys_list.ensures c.len.result c.len.ensures _ _ (omega (arith, counted, few)) (omega (arith, counted, shallow)) t
