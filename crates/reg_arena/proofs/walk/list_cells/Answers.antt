use Rattle.std.proofs.Common.{arith}
use Rattle.reg_arena.proofs.Tiling.CellWalkSteps.{walked_bins-none, walked_bins-more, walked_bins-all, at_bin}
use Rattle.reg_arena.proofs.walk.list_cells.Goals as goal

pub loop-at-init : goal.loop-at-init
loop-at-init c = rw c.new-cells.ensures.items (walked_bins-none _ c.requires.bins)

pub word_at-size-requires : goal.word_at-size-requires
word_at-size-requires c =
    let b = at_bin _ _ _ (omega (arith, c.loop-at-test.true, c.len.ensures.long)) c.loop-at.invariant in omega (arith, b.page, b.within)

pub list_bin-requires-clause-tiled : goal.list_bin-requires-clause-tiled
list_bin-requires-clause-tiled c =
    rw c.word_at-size.ensures (at_bin _ _ _ (omega (arith, c.loop-at-test.true, c.len.ensures.long)) c.loop-at.invariant).tiled

pub list_bin-requires-clause-within : goal.list_bin-requires-clause-within
list_bin-requires-clause-within c =
    rw c.word_at-size.ensures (at_bin _ _ _ (omega (arith, c.loop-at-test.true, c.len.ensures.long)) c.loop-at.invariant).within

pub loop-at-smaller : goal.loop-at-smaller
loop-at-smaller c =
    let b = at_bin _ _ _ (omega (arith, c.loop-at-test.true, c.len.ensures.long)) c.loop-at.invariant in omega (arith, b.page, b.within, c.word_at-size.ensures)

pub loop-at-preserved : goal.loop-at-preserved
loop-at-preserved c =
    rw c.word_at-size.ensures (walked_bins-more _ _ _ _ (omega (arith, c.loop-at-test.true, c.len.ensures.long)) c.loop-at.invariant (rw c.word_at-size.ensures at c.in_ok-list_bin.ensures.ok))

pub returns-clause-ok : goal.returns-clause-ok
returns-clause-ok c = walked_bins-all _ _ _ (omega (arith, c.loop-at-test.false, c.len.ensures.long)) c.loop-at.invariant
