use Rattle.std.proofs.Common.{sym, ap, ◌∙◌, ◌≡◌, ◌≢◌, slice_get, Some, List, [], ℕ}
use Rattle.std.proofs.lemmas.Option.{same_Some}
use Rattle.reg_heap.specs.Paths.{Member}
use Rattle.reg_heap.specs.Kinds.{Found}
use Rattle.reg_arena.specs.Arena.{heap_of}
use Rattle.reg_records.specs.KeyValues.{value_record_at}
use Rattle.reg_shape.specs.Nodes.{members_at, data_at}
use Rattle.reg_values.proofs.ValueListing.FoundValues.{is-some, stands, is-ok, on-err}
use Rattle.reg_values.proofs.ValueData.DataForms.{told-data}
use Rattle.reg_values.proofs.data.bytes_of.Goals as goal

pub cell_of-requires-clause-list : goal.cell_of-requires-clause-list
cell_of-requires-clause-list c =
    let v = c.requires.values in (stands (heap_of c.args.arena.now) c.args.list.count c.args.list.offset v.members v.met c.args.index v.reads v.written.each c.requires.index).list_here

pub cell_of-requires-clause-index : goal.cell_of-requires-clause-index
cell_of-requires-clause-index c =
    let v = c.requires.values in (stands (heap_of c.args.arena.now) c.args.list.count c.args.list.offset v.members v.met c.args.index v.reads v.written.each c.requires.index).long

pub record_at-requires : goal.record_at-requires
record_at-requires c =
    let h = heap_of c.args.arena.now in
    let v = c.requires.values in
    let s = stands h c.args.list.count c.args.list.offset v.members v.met c.args.index v.reads v.written.each c.requires.index in
    is-some _ s.written.value (ap (value_record_at h) c.cell_of.ensures ∙ s.written.reads)

pub data_bytes-requires : goal.data_bytes-requires
data_bytes-requires c =
    let h = heap_of c.args.arena.now in
    let v = c.requires.values in
    let s = stands h c.args.list.count c.args.list.offset v.members v.met c.args.index v.reads v.written.each c.requires.index in
    let r = ap (value_record_at h) (sym c.cell_of.ensures) ∙ c.record_at.ensures in
    is-some _ _ (told-data h c.args.list.offset v.members c.args.index s _ _ r)

pub returns-clause-told : goal.returns-clause-told
returns-clause-told c =
    let h = heap_of c.args.arena.now in
    let v = c.requires.values in
    let r = ap (value_record_at h) (sym c.cell_of.ensures) ∙ c.record_at.ensures in
    is-ok (λ b. (all : List ℕ) → (met : List Found) → data_at c.record_at.result.fields h ≡ Some (all, met) → b.items ≡ all)
    (λ b. (members : List Member) → (met : List Found) → members_at c.args.list.count c.args.list.offset h ≡ Some (members, met) →
    (member : Member) × (slice_get members c.args.index ≡ Some member) × (b.items ≡ member.bytes)) c.data_bytes.result
    (λ b f members met e.
    let s = stands h c.args.list.count c.args.list.offset members met c.args.index e v.written.each c.requires.index in
    (s.member, s.at, f s.member.bytes _ (told-data h c.args.list.offset members c.args.index s _ _ r))) c.data_bytes.ensures.told

pub returns-clause-empty : goal.returns-clause-empty
returns-clause-empty c =
    let h = heap_of c.args.arena.now in
    let v = c.requires.values in
    let r = ap (value_record_at h) (sym c.cell_of.ensures) ∙ c.record_at.ensures in
    on-err ((all : List ℕ) → (met : List Found) → data_at c.record_at.result.fields h ≡ Some (all, met) → all ≢ [])
    ((members : List Member) → (met : List Found) → members_at c.args.list.count c.args.list.offset h ≡ Some (members, met) →
    (member : Member) → slice_get members c.args.index ≡ Some member → member.bytes ≢ []) c.data_bytes.result
    (λ f members met e member at none.
    let s = stands h c.args.list.count c.args.list.offset members met c.args.index e v.written.each c.requires.index in
    f s.member.bytes _ (told-data h c.args.list.offset members c.args.index s _ _ r) (ap (λ (m : Member). m.bytes) (same_Some _ _ (sym s.at ∙ at)) ∙ none))
    c.data_bytes.ensures.empty
