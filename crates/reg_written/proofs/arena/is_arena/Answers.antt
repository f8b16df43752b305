use Rattle.std.proofs.Common.{arith}
use Rattle.reg_written.proofs.ArenaBins.{bins-start, at-bin, bins-bad, bins-more, bins-end}
use Rattle.reg_written.proofs.arena.is_arena.Goals as goal

pub loop-at-init : goal.loop-at-init
loop-at-init c = bins-start c.args.bins.now c.requires.tiled c.requires.small

pub word_at-requires : goal.word_at-requires
word_at-requires c = let k = at-bin _ _ c.loop-at.invariant c.loop-at-test.true in omega (arith, k.page, k.within)

pub is_good-requires-clause-tiled : goal.is_good-requires-clause-tiled
is_good-requires-clause-tiled c = rw c.word_at.ensures (at-bin _ _ c.loop-at.invariant c.loop-at-test.true).tiled

pub is_good-requires-clause-within : goal.is_good-requires-clause-within
is_good-requires-clause-within c =
    let k = at-bin _ _ c.loop-at.invariant c.loop-at-test.true in
    (omega (arith, k.page, c.word_at.ensures), omega (arith, k.within, c.word_at.ensures))

pub returns-then-not-is_good : goal.returns-then-not-is_good
returns-then-not-is_good c =
    bins-bad c.args.bins.now c.loop-at.at c.loop-at.invariant c.is_good.result c.loop-at-test.true (rw c.word_at.ensures at c.is_good.ensures) c.if-not-is_good.true

pub loop-at-smaller : goal.loop-at-smaller
loop-at-smaller c =
    let k = at-bin _ _ c.loop-at.invariant c.loop-at-test.true in omega (arith, k.page, k.within, c.word_at.ensures, c.loop-at-test.true)

pub loop-at-preserved : goal.loop-at-preserved
loop-at-preserved c =
    rw c.word_at.ensures (bins-more c.args.bins.now c.loop-at.at c.loop-at.invariant c.is_good.result c.loop-at-test.true (rw c.word_at.ensures at c.is_good.ensures) c.if-not-is_good.false)

pub returns : goal.returns
returns c = bins-end _ _ c.loop-at.invariant c.loop-at-test.false
