use Rattle.std.proofs.Common.{arith, ◌∙◌, refl}
use Rattle.reg_arena.proofs.FreeList.TakenCells.{goes-none, goes-on, goes-long, goes-used, goes-free, goes-all, at-cell}
use Rattle.reg_arena.proofs.adopt.list_free.Goals.{then-field-lt2147483648, else-field-lt2147483648}
use Rattle.reg_arena.proofs.adopt.list_free.Goals as goal

pub loop-at-init : goal.loop-at-init
loop-at-init c = (goes-none _ _ _ _, refl)

pub word_at-field-requires : goal.word_at-field-requires
word_at-field-requires c =
    let k = at-cell _ _ _ _ c.loop-at-test.true (goes-on _ _ _ _ _ _ _ c.loop-at.invariant.0 c.requires.taking) in
    omega (arith, k.eight, k.inside)

pub overflow_cast-at : goal.overflow_cast-at
overflow_cast-at c =
    let k = at-cell _ _ _ _ c.loop-at-test.true (goes-on _ _ _ _ _ _ _ c.loop-at.invariant.0 c.requires.taking) in
    let long = goes-long _ _ _ _ _ _ _ c.loop-at.invariant.0 c.requires.taking in
    record { fits = omega (arith, k.eight, k.inside, long, c.requires.small) }

pub insert-requires : goal.insert-requires
insert-requires c =
    let k = at-cell _ _ _ _ c.loop-at-test.true (goes-on _ _ _ _ _ _ _ c.loop-at.invariant.0 c.requires.taking) in
    let e = c.word_at-field.ensures in
    rw e (k.free (omega (arith, e, c.if-field-lt2147483648.true)))

pub overflow_add-at : goal.overflow_add-at
overflow_add-at c =
    let k = at-cell _ _ _ _ c.loop-at-test.true (goes-on _ _ _ _ _ _ _ c.loop-at.invariant.0 c.requires.taking) in
    let long = goes-long _ _ _ _ _ _ _ c.loop-at.invariant.0 c.requires.taking in
    let e = c.word_at-field.ensures in
    let s = rw e at c.field_size.ensures in
    record { fits = omega (arith, s, k.inside, long, c.requires.small) }

pub loop-at-smaller : goal.loop-at-smaller
loop-at-smaller c =
    let k = at-cell _ _ _ _ c.loop-at-test.true (goes-on _ _ _ _ _ _ _ c.loop-at.invariant.0 c.requires.taking) in
    let e = c.word_at-field.ensures in
    let s = rw e at c.field_size.ensures in
    omega (arith, s, k.eight, k.within)

pub loop-at-preserved : goal.loop-at-preserved
loop-at-preserved c =
    let e = c.word_at-field.ensures in
    elim c.if-field-lt2147483648.branch [
      | then-field-lt2147483648 w ↦
          rw (w.bins-is, w.lists-is, c.field_size.ensures, e) (
            goes-free _ _ _ _ _ _ _ _ _ c.loop-at-test.true (omega (arith, e, w.if-field-lt2147483648.true))
                (rw e at w.insert.ensures.adds) c.loop-at.invariant.0,
            w.insert.ensures.parts ∙ c.loop-at.invariant.1,
          )
      | else-field-lt2147483648 w ↦
          rw (w.bins-is, w.lists-is, c.field_size.ensures, e) (goes-used _ _ _ _ _ _ _ c.loop-at-test.true (omega (arith, e, w.if-field-lt2147483648.false)) c.loop-at.invariant.0, c.loop-at.invariant.1)
    ]

pub returns-clause-takes : goal.returns-clause-takes
returns-clause-takes c = goes-all _ _ _ _ _ _ _ (omega (arith, c.loop-at-test.false)) c.loop-at.invariant.0

pub returns-clause-long : goal.returns-clause-long
returns-clause-long c = goes-long _ _ _ _ _ _ _ c.loop-at.invariant.0 c.requires.taking
