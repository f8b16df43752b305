use Rattle.std.proofs.Common.{arith, ◌≡◌, length}
use Rattle.reg_heap.specs.declared.limits.TheConstants.{NONE}
use Rattle.reg_arena.proofs.Carving.LargestLeft.{largest-found}
use Rattle.reg_arena.proofs.each.largest_left.Goals as goal

pub returns : goal.returns
returns c =
    let end : c.loop-place.place ≡ length c.args.sizes.now = omega (arith, c.loop-place-test.false, c.loop-place.auto.place-end) in
    let next = largest-found NONE _ _ _ _ _ end c.requires.sizes c.requires.long c.requires.some c.loop-place.invariant in
    record { within = next.within; left = next.left; first = next.first }
