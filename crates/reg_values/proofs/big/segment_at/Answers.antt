use Rattle.std.proofs.Common.{refl, sym, ap, ◌∙◌, ◌*◌, length, take, drop, arith, length-take}
use Rattle.std.proofs.lemmas.Option.{same_Some}
use Rattle.reg_arena.specs.Arena.{heap_of}
use Rattle.reg_records.specs.BigData.{segments_for}
use Rattle.reg_values.proofs.ValueListing.FoundValues.{is-some, some-of, offset-of}
use Rattle.reg_values.proofs.ValueData.SegmentReading.{segment-of, segment-is, count-is, within}
use Rattle.reg_values.proofs.big.segment_at.Goals as goal

pub overflow_sub-size : goal.overflow_sub-size
overflow_sub-size c = let l = within c.args.size c.args.index _ refl c.requires.index in omega (arith, l)

pub content-requires-2 : goal.content-requires-2
content-requires-2 c =
    let h = heap_of c.args.arena.now in
    let x = some-of _ c.requires.pieces in
    let s = segment-of h c.args.size c.args.index c.args.list x.0.0 x.0.1 c.requires.index x.1 in
    let o = offset-of h c.args.list (segments_for c.args.size) c.args.index c.content.result.now c.offset_at-segment.result c.content.ensures c.requires.index c.offset_at-segment.ensures in
    is-some _ s.content (ap h o ∙ s.here)

pub slice_bounds-result-end : goal.slice_bounds-result-end
slice_bounds-result-end c =
    let h = heap_of c.args.arena.now in
    let x = some-of _ c.requires.pieces in
    let s = segment-of h c.args.size c.args.index c.args.list x.0.0 x.0.1 c.requires.index x.1 in
    let o = offset-of h c.args.list (segments_for c.args.size) c.args.index c.content.result.now c.offset_at-segment.result c.content.ensures c.requires.index c.offset_at-segment.ensures in
    let same = ap length (same_Some _ _ (sym (ap h o ∙ s.here) ∙ c.content-2.ensures)) in
    let m = count-is c.args.size c.args.index c.min-count.result c.min-count.ensures in
    let long = s.long in
    omega (arith, long, m, same, length-take c.min-count.result c.content-2.result.now)

pub returns : goal.returns
returns c = λ all met e.
    let h = heap_of c.args.arena.now in
    let s = segment-of h c.args.size c.args.index c.args.list all met c.requires.index e in
    let o = offset-of h c.args.list (segments_for c.args.size) c.args.index c.content.result.now c.offset_at-segment.result c.content.ensures c.requires.index c.offset_at-segment.ensures in
    let same = same_Some _ _ (sym c.content-2.ensures ∙ (ap h o ∙ s.here)) in
    let m = count-is c.args.size c.args.index c.min-count.result c.min-count.ensures in
    ap (take c.min-count.result) same ∙ (ap (λ n. take n s.content) m ∙ (s.is ∙ ap (λ n. take n (drop (n * c.args.index) all)) segment-is))
