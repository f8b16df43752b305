use Rattle.std.proofs.Common.{arith, ◌∙◌, sym}
use Rattle.reg_tree_image.proofs.NamedCells.BinScans.{good-header}
use Rattle.reg_tree_image.proofs.NamedCells.BadBins.{none-headed, page-behind, more-headed, bad-found, none-bad}
use Rattle.reg_tree_image.proofs.bad_bins.bad_header.Goals as goal

pub loop-at-init : goal.loop-at-init
loop-at-init c = none-headed c.args.bins.now

pub is_header-requires : goal.is_header-requires
is_header-requires c = let p = page-behind _ _ c.requires.pages c.loop-at.invariant c.loop-at-test.true in omega (arith, p)

pub returns-then-not-is_header : goal.returns-then-not-is_header
returns-then-not-is_header c = bad-found c.args.bins.now c.loop-at.at c.loop-at.invariant c.loop-at-test.true (sym c.is_header.ensures ∙ c.if-not-is_header.true)

pub word_at-requires : goal.word_at-requires
word_at-requires c = let p = page-behind _ _ c.requires.pages c.loop-at.invariant c.loop-at-test.true in omega (arith, p)

pub loop-at-smaller : goal.loop-at-smaller
loop-at-smaller c =
    let g = good-header c.args.bins.now c.loop-at.at (sym c.is_header.ensures ∙ c.if-not-is_header.false) in
    let some = g.some in
    let within = g.within in
    omega (arith, some, within, c.word_at.ensures)

pub loop-at-preserved : goal.loop-at-preserved
loop-at-preserved c =
    rw c.word_at.ensures (more-headed c.args.bins.now c.loop-at.at c.loop-at.invariant c.loop-at-test.true (sym c.is_header.ensures ∙ c.if-not-is_header.false))

pub returns : goal.returns
returns c = none-bad c.args.bins.now c.loop-at.at c.loop-at.invariant c.loop-at-test.false
