use Rattle.std.proofs.Common.{arith}
use Rattle.reg_arena.proofs.Carving.FreshBins.{fresh-is, fresh_of-more, fresh_of-room}
use Rattle.reg_arena.proofs.each.fresh_within.Goals as goal

pub returns-then-bin-limit : goal.returns-then-bin-limit
returns-then-bin-limit c =
    let room = fresh_of-room c.args.sizes.now c.loop-size.size-index c.loop-size-test.true in
    omega (arith, room, fresh-is _ _ c.bin_size-bin.ensures.least, c.loop-size.invariant.sum, c.loop-size.invariant.within, c.if-bin-limit.true)

pub loop-size-preserved : goal.loop-size-preserved
loop-size-preserved c =
    let more = fresh_of-more c.args.sizes.now c.loop-size.size-index c.loop-size-test.true in
    let bin = fresh-is _ _ c.bin_size-bin.ensures.least in
    record {
      sum = omega (arith, more, bin, c.loop-size.invariant.sum);
      within = omega (arith, c.loop-size.invariant.within, c.if-bin-limit.false);
    }
