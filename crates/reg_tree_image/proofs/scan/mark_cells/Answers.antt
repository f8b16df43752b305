use Rattle.std.proofs.Common.{arith, ◌∙◌, ap, sym, refl}
use Rattle.reg_tree_image.specs.Internal.CellScans.{is_size_in}
use Rattle.reg_tree_image.proofs.NamedCells.CellMarks.{none-noted, more-noted, not-noted, all-noted, eight-left}
use Rattle.reg_tree_image.proofs.scan.mark_cells.Goals as goal

pub loop-at-init : goal.loop-at-init
loop-at-init c = (none-noted c.args.bins.now c.args.from c.args.stop _ c.requires.eights.0 c.requires.within.0, refl)

pub size_at-size-requires : goal.size_at-size-requires
size_at-size-requires c =
    let e = eight-left _ _ _ _ _ _ c.loop-at.invariant.0 c.requires.eights.1 c.loop-at-test.true in omega (arith, e, c.requires.within.1)

pub note_cell-requires-clause-eight : goal.note_cell-requires-clause-eight
note_cell-requires-clause-eight c = c.loop-at.invariant.0.eight

pub note_cell-requires-clause-within : goal.note_cell-requires-clause-within
note_cell-requires-clause-within c =
    let e = eight-left _ _ _ _ _ _ c.loop-at.invariant.0 c.requires.eights.1 c.loop-at-test.true in omega (arith, e, c.requires.within.1)

pub note_cell-requires-clause-room : goal.note_cell-requires-clause-room
note_cell-requires-clause-room c = omega (arith, c.loop-at.invariant.1, c.requires.room)

pub returns-then-not-is_size-clause-bad : goal.returns-then-not-is_size-clause-bad
returns-then-not-is_size-clause-bad c = λ _. not-noted c.args.bins.now c.args.from c.loop-at.at c.args.stop _ _ c.loop-at.invariant.0 c.loop-at-test.true
    (ap (λ n. is_size_in n c.loop-at.at c.args.stop) (sym c.size_at-size.ensures) ∙ (sym c.is_size.ensures ∙ c.if-not-is_size.true))

pub loop-at-preserved : goal.loop-at-preserved
loop-at-preserved c =
    let good = ap (λ n. is_size_in n c.loop-at.at c.args.stop) (sym c.size_at-size.ensures) ∙ (sym c.is_size.ensures ∙ c.if-not-is_size.false) in (
      rw c.size_at-size.ensures (more-noted c.args.bins.now c.args.from c.loop-at.at c.args.stop _ _ _ c.loop-at.invariant.0 c.loop-at-test.true good c.note_cell.ensures.marks),
      c.note_cell.ensures.long ∙ c.loop-at.invariant.1,
    )

pub returns-clause-good : goal.returns-clause-good
returns-clause-good c = λ _. all-noted c.args.bins.now c.args.from c.loop-at.at c.args.stop _ _ c.loop-at.invariant.0 c.loop-at-test.false
