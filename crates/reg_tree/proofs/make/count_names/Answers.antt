use Rattle.std.proofs.Common.{arith}
use Rattle.reg_tree.proofs.InsertKey.PathNameCount.{counts-on}
use Rattle.reg_tree.proofs.make.count_names.Goals as goal

pub overflow_add-count : goal.overflow_add-count
overflow_add-count c =
    let few = counts-on c.loop-behind.count c.args.path.now c.loop-behind.rest.now _ c.in-Some.behind.now c.requires c.loop-behind.invariant.1
    c.in-Some.ensures in omega (arith, few)
