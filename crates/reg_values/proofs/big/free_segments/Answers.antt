use Rattle.std.proofs.Common.{ℕ, List, IsSome, ◌∙◌, ◌∷◌, [], length, sym, ap, subst, arith, refl}
use Rattle.reg_heap.specs.Heaps.{GivesUp}
use Rattle.reg_arena.specs.Arena.{heap_of}
use Rattle.reg_records.specs.RecordCells.{held}
use Rattle.reg_records.specs.OffsetRows.{offsets_at}
use Rattle.reg_values.proofs.ValueListing.ValueListOpening.{length-offsets}
use Rattle.reg_values.proofs.ValueListing.FoundValues.{held-is, offset-of}
use Rattle.reg_values.proofs.ValueFreeing.FreedRuns.{list-kept, next-there, freed-more, freed-none, freed-all}
use Rattle.reg_values.proofs.big.free_segments.Goals as goal

pub loop-index-init : goal.loop-index-init
loop-index-init c = record {
  gone = freed-none (heap_of c.args.arena.now) (offsets_at c.args.count 0 (held (heap_of c.args.arena.now) c.args.list));
  long = refl;
}

pub content-requires : goal.content-requires
content-requires c =
    let h0 = heap_of c.args.arena.now in
    let row : List ℕ = offsets_at c.args.count 0 (held h0 c.args.list) in
    let k = list-kept h0 (heap_of c.loop-index.arena) c.args.list c.loop-index.index row c.requires.once c.loop-index.invariant.gone c.requires.exists in
    subst IsSome (sym k) c.requires.exists

pub offset_at-segment-requires : goal.offset_at-segment-requires
offset_at-segment-requires c =
    let h0 = heap_of c.args.arena.now in
    let row : List ℕ = offsets_at c.args.count 0 (held h0 c.args.list) in
    let k = list-kept h0 (heap_of c.loop-index.arena) c.args.list c.loop-index.index row c.requires.once c.loop-index.invariant.gone c.requires.exists in
    let s = ap length (held-is h0 c.args.list c.content.result.now (sym k ∙ c.content.ensures)) in
    let l = c.requires.long in
    let t = c.loop-index-test.true in
    omega (arith, s, l, t)

pub free-requires : goal.free-requires
free-requires c =
    let h0 = heap_of c.args.arena.now in
    let h = heap_of c.loop-index.arena in
    let row : List ℕ = offsets_at c.args.count 0 (held h0 c.args.list) in
    let k = list-kept h0 h c.args.list c.loop-index.index row c.requires.once c.loop-index.invariant.gone c.requires.exists in
    let o = offset-of h0 c.args.list c.args.count c.loop-index.index c.content.result.now c.offset_at-segment.result (sym k ∙ c.content.ensures) c.loop-index-test.true c.offset_at-segment.ensures in
    let n = length-offsets c.args.count 0 (held h0 c.args.list) in
    let t = c.loop-index-test.true in
    subst (λ o. IsSome (h o)) (sym o) (next-there h0 h c.args.list c.loop-index.index row c.requires.once c.loop-index.invariant.gone (omega (arith, n, t)))

pub loop-index-preserved : goal.loop-index-preserved
loop-index-preserved c = record {
  gone = let h0 = heap_of c.args.arena.now in
      let h = heap_of c.loop-index.arena in
      let row : List ℕ = offsets_at c.args.count 0 (held h0 c.args.list) in
      let k = list-kept h0 h c.args.list c.loop-index.index row c.requires.once c.loop-index.invariant.gone c.requires.exists in
      let o = offset-of h0 c.args.list c.args.count c.loop-index.index c.content.result.now c.offset_at-segment.result (sym k ∙ c.content.ensures)
      c.loop-index-test.true c.offset_at-segment.ensures in
      let n = length-offsets c.args.count 0 (held h0 c.args.list) in
      let t = c.loop-index-test.true in
      let k = heap_of c.free.new.self in
      freed-more h0 h c.args.list c.loop-index.index row c.requires.once c.loop-index.invariant.gone (omega (arith, n, t)) k (subst (λ o. GivesUp h k (o ∷ [])) o c.free.ensures.gone);
  long = c.free.ensures.long ∙ c.loop-index.invariant.long;
}

pub returns-clause-gone : goal.returns-clause-gone
returns-clause-gone c =
    let h0 = heap_of c.args.arena.now in
    let row : List ℕ = offsets_at c.args.count 0 (held h0 c.args.list) in
    let n = length-offsets c.args.count 0 (held h0 c.args.list) in
    let t = c.loop-index-test.false in
    freed-all h0 (heap_of c.loop-index.arena) row c.loop-index.index (omega (arith, n, t)) c.loop-index.invariant.gone
