use Rattle.std.proofs.Common.{arith, ◌≡◌, true, is_ok}
use Rattle.reg_arena.proofs.Tiling.CellWalkSteps.{walked-none, walked-more, walked-all, at_cell}
use Rattle.reg_arena.proofs.walk.list_bin.Goals as goal

pub loop-at-init : goal.loop-at-init
loop-at-init c = walked-none _ _ _ _ c.requires.tiled

pub size_at-size-requires : goal.size_at-size-requires
size_at-size-requires c =
    let a = at_cell _ _ _ _ _ _ c.loop-at-test.true c.loop-at.invariant in omega (arith, a.eight, a.within)

pub is_allocated_at-requires : goal.is_allocated_at-requires
is_allocated_at-requires c =
    let a = at_cell _ _ _ _ _ _ c.loop-at-test.true c.loop-at.invariant in omega (arith, a.eight, a.within)

pub loop-at-smaller : goal.loop-at-smaller
loop-at-smaller c =
    let a = at_cell _ _ _ _ _ _ c.loop-at-test.true c.loop-at.invariant in omega (arith, a.eight, a.within, c.size_at-size.ensures)

pub loop-at-preserved : goal.loop-at-preserved
loop-at-preserved c =
    let ok : is_ok c.push.result ≡ true = rw c.if-is_err.false at c.is_err.ensures.negation in
    let items = rw ok at c.push.ensures.items in
    rw (items, c.is_allocated_at.ensures, c.size_at-size.ensures) (walked-more _ _ _ _ _ _ c.loop-at-test.true c.loop-at.invariant)

pub returns-clause-ok : goal.returns-clause-ok
returns-clause-ok c = walked-all _ _ _ _ _ _ (omega (arith, c.loop-at-test.false)) c.loop-at.invariant
