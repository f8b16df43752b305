use Rattle.std.proofs.Common.{◌∙◌, ◌*◌, ◌++◌, ap, arith, take}
use Rattle.reg_arena.specs.Arena.{heap_of}
use Rattle.reg_records.specs.declared.db.TheConstants.{SEGMENT_SIZE}
use Rattle.reg_values.proofs.ValueData.SegmentReading.{next-taken, all-taken}
use Rattle.reg_values.proofs.big.joined.Goals as goal

pub loop-index-preserved : goal.loop-index-preserved
loop-index-preserved c = λ all met e.
    c.in_ok-extend_from_slice.ensures.items ∙ (ap (λ xs. xs ++ c.segment_at.result.now) (c.loop-index.invariant all met e) ∙
    (ap (λ xs. take (SEGMENT_SIZE * c.loop-index.index) all ++ xs) (c.segment_at.ensures all met e) ∙ next-taken all c.loop-index.index))

pub returns : goal.returns
returns c = λ all met e.
    c.loop-index.invariant all met e ∙ all-taken (heap_of c.args.arena.now) c.args.size c.args.list c.loop-index.index all met e
    (omega (arith, c.segments_for-index-end.ensures, c.loop-index-test.false))
