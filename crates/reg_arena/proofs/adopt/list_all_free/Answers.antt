use Rattle.std.proofs.Common.{arith, ◌∙◌, refl}
use Rattle.reg_arena.proofs.FreeList.TakenBins.{at-bin, bins-none, bins-more, bins-all}
use Rattle.reg_arena.proofs.adopt.list_all_free.Goals as goal

pub loop-at-init : goal.loop-at-init
loop-at-init c = (bins-none _ _, refl, refl)

pub word_at-size-requires : goal.word_at-size-requires
word_at-size-requires c =
    let k = at-bin _ _ _ _ _ (omega (arith, c.loop-at-test.true, c.len.ensures.long)) c.loop-at.invariant.0 c.requires.taken in omega (arith, k.page, k.within)

pub list_free-requires-clause-taking : goal.list_free-requires-clause-taking
list_free-requires-clause-taking c =
    let k = at-bin _ _ _ _ _ (omega (arith, c.loop-at-test.true, c.len.ensures.long)) c.loop-at.invariant.0 c.requires.taken in rw c.word_at-size.ensures k.taking

pub list_free-requires-clause-small : goal.list_free-requires-clause-small
list_free-requires-clause-small c = omega (arith, c.loop-at.invariant.2, c.requires.small)

pub loop-at-smaller : goal.loop-at-smaller
loop-at-smaller c =
    let k = at-bin _ _ _ _ _ (omega (arith, c.loop-at-test.true, c.len.ensures.long)) c.loop-at.invariant.0 c.requires.taken in
    omega (arith, k.page, k.within, c.word_at-size.ensures, c.list_free.ensures.long)

pub loop-at-preserved : goal.loop-at-preserved
loop-at-preserved c =
    rw c.word_at-size.ensures (
      bins-more _ _ _ _ _ _ _ (omega (arith, c.loop-at-test.true, c.len.ensures.long)) c.loop-at.invariant.0 (rw c.word_at-size.ensures at c.list_free.ensures.takes),
      c.list_free.ensures.parts ∙ c.loop-at.invariant.1,
      c.list_free.ensures.long ∙ c.loop-at.invariant.2,
    )

pub returns-clause-taken : goal.returns-clause-taken
returns-clause-taken c = bins-all _ _ _ _ _ (omega (arith, c.loop-at-test.false, c.len.ensures.long)) c.loop-at.invariant.0
