use Rattle.std.proofs.Common.{arith}
use Rattle.reg_written.proofs.CellsApart.{cells-start, at-cell, cells-touch, cells-more, cells-end}
use Rattle.reg_written.proofs.arena.are_apart.Goals as goal

pub loop-at-init : goal.loop-at-init
loop-at-init c = cells-start c.args.bins.now c.args.from c.args.stop c.requires.tiled

pub is_free-free-requires : goal.is_free-free-requires
is_free-free-requires c =
    let k = at-cell _ _ _ _ _ c.loop-at.invariant c.loop-at-test.true in omega (arith, k.eight, k.within, c.requires.within)

pub returns-then-behind-free : goal.returns-then-behind-free
returns-then-behind-free c =
    cells-touch c.args.bins.now c.args.from c.loop-at.at c.args.stop c.loop-at.behind c.loop-at.invariant c.is_free-free.result c.loop-at-test.true
    c.is_free-free.ensures c.if-behind-free.true

pub size_at-requires : goal.size_at-requires
size_at-requires c =
    let k = at-cell _ _ _ _ _ c.loop-at.invariant c.loop-at-test.true in omega (arith, k.eight, k.within, c.requires.within)

pub loop-at-smaller : goal.loop-at-smaller
loop-at-smaller c =
    let k = at-cell _ _ _ _ _ c.loop-at.invariant c.loop-at-test.true in omega (arith, k.eight, k.within, c.size_at.ensures)

pub loop-at-preserved : goal.loop-at-preserved
loop-at-preserved c =
    rw c.size_at.ensures (cells-more c.args.bins.now c.args.from c.loop-at.at c.args.stop c.loop-at.behind c.loop-at.invariant c.is_free-free.result
    c.loop-at-test.true c.is_free-free.ensures c.if-behind-free.false)

pub returns : goal.returns
returns c = cells-end _ _ _ _ _ c.loop-at.invariant (omega (arith, c.loop-at-test.false))
