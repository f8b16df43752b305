use Rattle.std.proofs.Common.{◌≤◌, ◌+◌, ◌*◌, ℕ, List, max, length, arith, subst, sym, ap, ◌∙◌, refl}
use Rattle.reg_heap.specs.Paths.{Member}
use Rattle.reg_arena.specs.Arena.{heap_of}
use Rattle.reg_records.specs.KeyValues.{value_record_at}
use Rattle.reg_records.specs.OffsetRows.{offset_in}
use Rattle.reg_values.proofs.ValueListing.ValueListOpening.{members-length}
use Rattle.reg_values.proofs.ValueListing.FoundValues.{is-some, stands, held-is, record-there, record-reads, record-is}
use Rattle.reg_values.proofs.ValueListing.LargestLengths.{one-more, all-passed}
use Rattle.reg_values.proofs.ValueData.DataForms.{told-name, told-size}
use Rattle.reg_values.proofs.finding.largest.Goals as goal

pub returns-then-list-eq0-clause-name : goal.returns-then-list-eq0-clause-name
returns-then-list-eq0-clause-name c = λ members met e.
    let n = members-length (heap_of c.args.arena.now) c.args.list.count c.args.list.offset members met e in
    sym (all-passed (λ (m : Member). length m.name) members 0 0 (omega (arith, n, c.if-list-eq0.true)))

pub returns-then-list-eq0-clause-size : goal.returns-then-list-eq0-clause-size
returns-then-list-eq0-clause-size c = λ members met e.
    let n = members-length (heap_of c.args.arena.now) c.args.list.count c.args.list.offset members met e in
    sym (all-passed (λ (m : Member). length m.bytes) members 0 0 (omega (arith, n, c.if-list-eq0.true)))

pub content-row-requires : goal.content-row-requires
content-row-requires c =
    let v = c.requires in
    let some = c.if-list-eq0.false in
    (stands (heap_of c.args.arena.now) c.args.list.count c.args.list.offset v.members v.met 0 v.reads v.written.each (omega (arith, some))).list_here

pub loop-index-init : goal.loop-index-init
loop-index-init c = (c.empty-stretch.ensures (heap_of c.args.arena.now), λ members met e. (refl, refl))

pub offset_at-requires : goal.offset_at-requires
offset_at-requires c =
    let v = c.requires in
    let s = stands (heap_of c.args.arena.now) c.args.list.count c.args.list.offset v.members v.met c.loop-index.index v.reads v.written.each c.loop-index-test.true in
    subst (λ (x : List ℕ). 4 * c.loop-index.index + 4 ≤ length x) (held-is (heap_of c.args.arena.now) c.args.list.offset c.content-row.result.now c.content-row.ensures) s.long

pub content_by-cell-requires-clause-cell : goal.content_by-cell-requires-clause-cell
content_by-cell-requires-clause-cell c =
    let v = c.requires in
    let h = heap_of c.args.arena.now in
    let s = stands h c.args.list.count c.args.list.offset v.members v.met c.loop-index.index v.reads v.written.each c.loop-index-test.true in
    let cell = c.offset_at.ensures ∙ ap (λ (x : List ℕ). offset_in x c.loop-index.index) (sym (held-is h c.args.list.offset c.content-row.result.now c.content-row.ensures)) in
    record-there h c.offset_at.result (is-some _ s.written.value (ap (value_record_at h) cell ∙ s.written.reads))

pub content_by-cell-requires-clause-stretch : goal.content_by-cell-requires-clause-stretch
content_by-cell-requires-clause-stretch c = c.loop-index.invariant.0

pub lengths_in-requires : goal.lengths_in-requires
lengths_in-requires c =
    let v = c.requires in
    let h = heap_of c.args.arena.now in
    let s = stands h c.args.list.count c.args.list.offset v.members v.met c.loop-index.index v.reads v.written.each c.loop-index-test.true in
    let cell = c.offset_at.ensures ∙ ap (λ (x : List ℕ). offset_in x c.loop-index.index) (sym (held-is h c.args.list.offset c.content-row.result.now c.content-row.ensures)) in
    record-reads h c.offset_at.result c.content_by-cell.result.content.now c.content_by-cell.ensures.content (is-some _ s.written.value (ap (value_record_at h) cell ∙ s.written.reads))

pub loop-index-preserved : goal.loop-index-preserved
loop-index-preserved c = (
  c.content_by-cell.ensures.stretch,
  λ members met e.
      let h = heap_of c.args.arena.now in
      let i = c.loop-index.index in
      let s = stands h c.args.list.count c.args.list.offset members met i e c.requires.written.each c.loop-index-test.true in
      let cell = c.offset_at.ensures ∙ ap (λ (x : List ℕ). offset_in x i) (sym (held-is h c.args.list.offset c.content-row.result.now c.content-row.ensures)) in
      let r = record-is h c.offset_at.result c.content_by-cell.result.content.now s.written.value c.content_by-cell.ensures.content (ap (value_record_at h) cell ∙ s.written.reads) in
      let name = c.lengths_in.ensures.name s.written.value r ∙ ap length (sym (told-name h c.args.list.offset members i s _ _ s.written.reads)) in
      let size = c.lengths_in.ensures.size s.written.value r ∙ sym (told-size h c.args.list.offset members i s _ _ s.written.reads) in
      let before = c.loop-index.invariant.1 members met e in (
        one-more (λ (m : Member). length m.name) members i c.loop-index.largest.name c.larger-largest.result.name s.member s.rest
            (c.larger-largest.ensures.name ∙ ap (max c.loop-index.largest.name) name) ∙ before.0,
        one-more (λ (m : Member). length m.bytes) members i c.loop-index.largest.size c.larger-largest.result.size s.member s.rest
            (c.larger-largest.ensures.size ∙ ap (max c.loop-index.largest.size) size) ∙ before.1,
      ),
)

pub returns-clause-name : goal.returns-clause-name
returns-clause-name c = λ members met e.
    let n = members-length (heap_of c.args.arena.now) c.args.list.count c.args.list.offset members met e in
    sym (all-passed (λ (m : Member). length m.name) members c.loop-index.index c.loop-index.largest.name (omega (arith, n, c.loop-index-test.false)))
    ∙ (c.loop-index.invariant.1 members met e).0

pub returns-clause-size : goal.returns-clause-size
returns-clause-size c = λ members met e.
    let n = members-length (heap_of c.args.arena.now) c.args.list.count c.args.list.offset members met e in
    sym (all-passed (λ (m : Member). length m.bytes) members c.loop-index.index c.loop-index.largest.size (omega (arith, n, c.loop-index-test.false)))
    ∙ (c.loop-index.invariant.1 members met e).1
