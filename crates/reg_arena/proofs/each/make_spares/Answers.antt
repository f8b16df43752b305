use Rattle.std.proofs.Common.{◌≡◌, ◌+◌, ◌++◌, ◌∷◌, [], take, get_or}
use Rattle.std.proofs.lemmas.List.{take_more}
use Rattle.reg_heap.specs.declared.limits.TheConstants.{NONE}
use Rattle.reg_arena.proofs.Carving.SpareBins.{room-some, spare-more, replicate-more}
use Rattle.reg_arena.proofs.each.make_spares.Goals as goal

pub loop-size-preserved : goal.loop-size-preserved
loop-size-preserved c =
    let i = c.loop-size.size-index in
    let sizes = c.args.sizes.now in
    let more : take (i + 1) sizes ≡ take i sizes ++ get_or sizes i 0 ∷ [] = take_more sizes i 0 c.loop-size-test.true in
    let room = room-some _ _ _ _ c.in_ok-memory.ensures.exact.0 c.in_ok-memory.ensures.exact.1 c.bin_size.ensures.least in (
      rw (more, replicate-more i NONE, c.in_ok-push.ensures.items) (spare-more NONE _ _ _ _ _ c.loop-size.invariant.0 room),
      λ pages. c.in_ok-memory.ensures.pages (c.loop-size.invariant.1 pages),
    )
