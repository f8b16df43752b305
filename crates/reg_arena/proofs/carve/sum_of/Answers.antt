use Rattle.std.proofs.Common.{arith}
use Rattle.reg_arena.proofs.Carving.CarveCuts.{total_of-room, total_of-more}
use Rattle.reg_arena.proofs.carve.sum_of.Goals as goal

pub overflow_add-total : goal.overflow_add-total
overflow_add-total c = omega (arith, total_of-room c.args.sizes.now c.loop-size.size-index c.loop-size-test.true, c.loop-size.invariant, c.requires)

pub loop-size-preserved : goal.loop-size-preserved
loop-size-preserved c = omega (arith, total_of-more c.args.sizes.now c.loop-size.size-index c.loop-size-test.true, c.loop-size.invariant)
