use Rattle.std.proofs.Common.{sym, ap, ◌∙◌, ◌≡◌, ◌≤◌, ◌+◌, ◌*◌, ℕ, List, true, false, arith, subst, length}
use Rattle.reg_heap.specs.Members.{index_named, same_name}
use Rattle.reg_arena.specs.Arena.{heap_of}
use Rattle.reg_records.specs.KeyValues.{value_record_at}
use Rattle.reg_records.specs.OffsetRows.{offset_in}
use Rattle.reg_values.proofs.ValueListing.ValueListOpening.{members-length}
use Rattle.reg_values.proofs.ValueListing.FoundValues.{is-some, stands, add-none, passed, met-here, none-left, same-is, held-is, no-index}
use Rattle.reg_values.proofs.ValueData.DataForms.{told-name}
use Rattle.reg_values.proofs.finding.find.Goals as goal

pub returns-then-list-eq0 : goal.returns-then-list-eq0
returns-then-list-eq0 c = λ members met e.
    let n = members-length (heap_of c.args.arena.now) c.args.list.count c.args.list.offset members met e in
    let z = c.if-list-eq0.true in
    no-index c.args.name.now members (omega (arith, n, z))

pub content-row-requires : goal.content-row-requires
content-row-requires c =
    let v = c.requires in
    let some = c.if-list-eq0.false in
    (stands (heap_of c.args.arena.now) c.args.list.count c.args.list.offset v.members v.met 0 v.reads v.written.each (omega (arith, some))).list_here

pub loop-index-init : goal.loop-index-init
loop-index-init c = λ members met e. add-none (index_named c.args.name.now members)

pub offset_at-cell-requires : goal.offset_at-cell-requires
offset_at-cell-requires c =
    let v = c.requires in
    let s = stands (heap_of c.args.arena.now) c.args.list.count c.args.list.offset v.members v.met c.loop-index.index v.reads v.written.each c.loop-index-test.true in
    subst (λ (x : List ℕ). 4 * c.loop-index.index + 4 ≤ length x) (held-is (heap_of c.args.arena.now) c.args.list.offset c.content-row.result.now c.content-row.ensures) s.long

pub name_at-requires : goal.name_at-requires
name_at-requires c =
    let v = c.requires in
    let h = heap_of c.args.arena.now in
    let s = stands h c.args.list.count c.args.list.offset v.members v.met c.loop-index.index v.reads v.written.each c.loop-index-test.true in
    let cell = c.offset_at-cell.ensures ∙ ap (λ (x : List ℕ). offset_in x c.loop-index.index) (sym (held-is h c.args.list.offset c.content-row.result.now c.content-row.ensures)) in
    is-some _ s.written.value (ap (value_record_at h) cell ∙ s.written.reads)

pub returns-then-same_name : goal.returns-then-same_name
returns-then-same_name c = λ members met e.
    let h = heap_of c.args.arena.now in
    let s = stands h c.args.list.count c.args.list.offset members met c.loop-index.index e c.requires.written.each c.loop-index-test.true in
    let cell = c.offset_at-cell.ensures ∙ ap (λ (x : List ℕ). offset_in x c.loop-index.index) (sym (held-is h c.args.list.offset c.content-row.result.now c.content-row.ensures)) in
    let n = told-name h c.args.list.offset members c.loop-index.index s _ _ s.written.reads ∙ sym (c.name_at.ensures s.written.value (ap (value_record_at h) cell ∙ s.written.reads)) in
    let b : same_name s.member.name c.args.name.now ≡ true = ap (λ a. same_name a c.args.name.now) n ∙ (same-is _ _ c.same_name.result c.same_name.ensures ∙ c.if-same_name.true) in
    sym (met-here c.args.name.now members c.loop-index.index s.member s.rest b) ∙ c.loop-index.invariant members met e

pub loop-index-preserved : goal.loop-index-preserved
loop-index-preserved c = λ members met e.
    let h = heap_of c.args.arena.now in
    let s = stands h c.args.list.count c.args.list.offset members met c.loop-index.index e c.requires.written.each c.loop-index-test.true in
    let cell = c.offset_at-cell.ensures ∙ ap (λ (x : List ℕ). offset_in x c.loop-index.index) (sym (held-is h c.args.list.offset c.content-row.result.now c.content-row.ensures)) in
    let n = told-name h c.args.list.offset members c.loop-index.index s _ _ s.written.reads ∙ sym (c.name_at.ensures s.written.value (ap (value_record_at h) cell ∙ s.written.reads)) in
    let b : same_name s.member.name c.args.name.now ≡ false = ap (λ a. same_name a c.args.name.now) n ∙ (same-is _ _ c.same_name.result c.same_name.ensures ∙ c.if-same_name.false) in
    sym (passed c.args.name.now members c.loop-index.index s.member s.rest b) ∙ c.loop-index.invariant members met e

pub returns : goal.returns
returns c = λ members met e.
    let n = members-length (heap_of c.args.arena.now) c.args.list.count c.args.list.offset members met e in
    let t = c.loop-index-test.false in
    sym (none-left c.args.name.now members c.loop-index.index (omega (arith, n, t))) ∙ c.loop-index.invariant members met e
