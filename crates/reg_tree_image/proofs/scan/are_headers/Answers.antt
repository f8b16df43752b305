use Rattle.std.proofs.Common.{arith, ◌∙◌, sym}
use Rattle.reg_tree_image.proofs.NamedCells.BinScans.{none-good, page-left, good-header, more-good, not-good, all-good}
use Rattle.reg_tree_image.proofs.scan.are_headers.Goals as goal

pub loop-at-init : goal.loop-at-init
loop-at-init c = none-good c.args.bins.now

pub is_header-requires : goal.is_header-requires
is_header-requires c = let p = page-left _ _ c.requires.pages c.loop-at.invariant c.loop-at-test.true in omega (arith, p)

pub returns-then-not-is_header : goal.returns-then-not-is_header
returns-then-not-is_header c = not-good c.args.bins.now c.loop-at.at c.loop-at.invariant c.loop-at-test.true (sym c.is_header.ensures ∙ c.if-not-is_header.true)

pub word_at-requires : goal.word_at-requires
word_at-requires c = let p = page-left _ _ c.requires.pages c.loop-at.invariant c.loop-at-test.true in omega (arith, p)

pub loop-at-smaller : goal.loop-at-smaller
loop-at-smaller c =
    let g = good-header c.args.bins.now c.loop-at.at (sym c.is_header.ensures ∙ c.if-not-is_header.false) in
    let some = g.some in
    let within = g.within in
    omega (arith, some, within, c.word_at.ensures)

pub loop-at-preserved : goal.loop-at-preserved
loop-at-preserved c =
    rw c.word_at.ensures (more-good c.args.bins.now c.loop-at.at c.loop-at.invariant c.loop-at-test.true (sym c.is_header.ensures ∙ c.if-not-is_header.false))

pub returns : goal.returns
returns c = all-good c.args.bins.now c.loop-at.at c.loop-at.invariant c.loop-at-test.false
