use Rattle.std.proofs.Common.{suc, arith}
use Rattle.reg_tree_image.proofs.NamedCells.BadBins.{none-filled, bin-there, more-filled, bad-in, all-filled}
use Rattle.reg_tree_image.proofs.bad_bins.bad_size.Goals as goal

pub loop-at-init : goal.loop-at-init
loop-at-init c = none-filled c.args.bins.now c.requires.headers

pub word_at-requires : goal.word_at-requires
word_at-requires c = let p = bin-there _ _ c.requires.pages c.loop-at.invariant c.loop-at-test.true in omega (arith, p.page)

pub end_of_sizes-end-requires-clause-eights : goal.end_of_sizes-end-requires-clause-eights
end_of_sizes-end-requires-clause-eights c =
    let p = bin-there _ _ c.requires.pages c.loop-at.invariant c.loop-at-test.true in
    (omega (arith, p.eight), omega (arith, p.eight, p.pages, c.word_at.ensures))

pub end_of_sizes-end-requires-clause-within : goal.end_of_sizes-end-requires-clause-within
end_of_sizes-end-requires-clause-within c =
    let p = bin-there _ _ c.requires.pages c.loop-at.invariant c.loop-at-test.true in
    (omega (arith, p.some, p.pages, c.word_at.ensures), omega (arith, p.within, c.word_at.ensures))

pub loop-at-smaller : goal.loop-at-smaller
loop-at-smaller c =
    let p = bin-there _ _ c.requires.pages c.loop-at.invariant c.loop-at-test.true in omega (arith, p.some, p.within, c.word_at.ensures)

pub loop-at-preserved : goal.loop-at-preserved
loop-at-preserved c =
    more-filled c.args.bins.now c.loop-at.at c.loop-at.invariant c.loop-at-test.true c.word_at.result c.end_of_sizes-end.result c.word_at.ensures
    (c.end_of_sizes-end.ensures.end (suc c.word_at.result) (omega arith)) c.if-end-stop.false c.end_of_sizes-end.ensures.within

pub returns-then-end-stop : goal.returns-then-end-stop
returns-then-end-stop c =
    bad-in c.args.bins.now c.loop-at.at c.loop-at.invariant c.loop-at-test.true c.word_at.result c.end_of_sizes-end.result c.word_at.ensures
    (c.end_of_sizes-end.ensures.end (suc c.word_at.result) (omega arith)) c.if-end-stop.true

pub returns : goal.returns
returns c = all-filled c.args.bins.now c.loop-at.at c.loop-at.invariant c.loop-at-test.false
