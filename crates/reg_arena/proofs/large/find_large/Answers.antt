use Rattle.std.proofs.Common.{arith, ◌+◌, ◌≤◌, length}
use Rattle.reg_arena.proofs.FreeList.FreeListWalk.{passed-none, passed-more, passed-fit, passed-all, passed-cell}
use Rattle.reg_arena.proofs.large.find_large.Goals as goal

pub word_at-requires : goal.word_at-requires
word_at-requires c =
    let l = passed-cell (λ o. o + 8 ≤ length c.args.bins.now.items) _ _ _ _ _ _ c.loop-i-test.true c.requires c.loop-i.invariant in
    omega (arith, l)

pub word_at-cell-requires : goal.word_at-cell-requires
word_at-cell-requires c =
    let l = passed-cell (λ o. o + 8 ≤ length c.args.bins.now.items) _ _ _ _ _ _ c.loop-i-test.true c.requires c.loop-i.invariant in
    omega (arith, l)

pub loop-i-init : goal.loop-i-init
loop-i-init c = passed-none _ _ _ _

pub returns-then-word_at-total : goal.returns-then-word_at-total
returns-then-word_at-total c = passed-fit _ _ _ _ _ _ c.loop-i-test.true (let e = c.word_at.ensures in omega (arith, e)) c.loop-i.invariant

pub loop-i-preserved : goal.loop-i-preserved
loop-i-preserved c = passed-more _ _ _ _ _ _ _ c.loop-i-test.true c.word_at-cell.ensures
    (let e = c.word_at.ensures in omega (arith, e)) c.loop-i.invariant

pub returns : goal.returns
returns c = passed-all _ _ _ _ _ _ (omega arith) c.loop-i.invariant
