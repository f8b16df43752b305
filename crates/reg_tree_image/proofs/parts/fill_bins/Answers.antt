use Rattle.std.proofs.Common.{◌+◌, refl, arith}
use Rattle.reg_tree_image.proofs.Devices.ImageParts.{page-there_at, page-long, filled-none, page-filled, page-within, filled-by_room, filled-by_bytes}
use Rattle.reg_tree_image.proofs.parts.fill_bins.Goals as goal

pub loop-done-init : goal.loop-done-init
loop-done-init c = record { within = omega (arith, c.requires); is = filled-none c.args.arena.now.bytes c.args.room.now c.args.from }

pub bytes-page-requires : goal.bytes-page-requires
bytes-page-requires c =
    page-there_at _ _ c.bins_size-size.ensures.sound (c.args.from + c.loop-done.done) (rw c.bins_size-size.ensures.size at c.if-from-done.true)

pub fill_behind-requires-clause-from : goal.fill_behind-requires-clause-from
fill_behind-requires-clause-from c =
    let long = page-long _ _ c.bins_size-size.ensures.sound (c.args.from + c.loop-done.done) (rw c.bins_size-size.ensures.size at c.if-from-done.true)
    c.bytes-page.result.now c.bytes-page.ensures in
    omega (arith, long)

pub loop-done-preserved : goal.loop-done-preserved
loop-done-preserved c = let f = c.loop-done.invariant in let inside = rw c.bins_size-size.ensures.size at c.if-from-done.true in record {
  within = page-within _ _ c.bins_size-size.ensures.sound c.args.from c.loop-done.done inside;
  is = page-filled c.args.arena.now.bytes c.args.room.now c.args.from c.loop-done.done c.loop-done.room c.bytes-page.result.now _ f
      c.loop-done-test.true _ refl c.bytes-page.ensures c.fill_behind.ensures;
}

pub returns-else-from-done : goal.returns-else-from-done
returns-else-from-done c =
    filled-by_bytes c.args.arena.now.bytes c.args.room.now c.args.from c.loop-done.done c.loop-done.room c.loop-done.invariant
    (rw c.bins_size-size.ensures.size at c.if-from-done.false)

pub returns-after-loop-done : goal.returns-after-loop-done
returns-after-loop-done c =
    filled-by_room c.args.arena.now.bytes c.args.room.now c.args.from c.loop-done.done c.loop-done.room c.loop-done.invariant c.loop-done-test.false
