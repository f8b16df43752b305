use Rattle.std.proofs.Common.{sym, ap, ◌∙◌, ◌≤◌, List, ℕ, length, subst}
use Rattle.std.proofs.lemmas.Option.{same_Some}
use Rattle.reg_heap.specs.Kinds.{Found}
use Rattle.reg_arena.specs.Arena.{heap_of}
use Rattle.reg_records.specs.KeyValues.{value_record_at}
use Rattle.reg_values.proofs.ValueListing.FoundValues.{is-some, stands}
use Rattle.reg_values.proofs.ValueData.DataForms.{told-data}
use Rattle.reg_values.proofs.data.fill_bytes.Goals as goal

pub cell_of-requires-clause-list : goal.cell_of-requires-clause-list
cell_of-requires-clause-list c =
    let v = c.requires.values in (stands (heap_of c.args.arena.now) c.args.list.count c.args.list.offset v.members v.met c.args.index v.reads v.written.each c.requires.index).list_here

pub cell_of-requires-clause-index : goal.cell_of-requires-clause-index
cell_of-requires-clause-index c =
    let v = c.requires.values in (stands (heap_of c.args.arena.now) c.args.list.count c.args.list.offset v.members v.met c.args.index v.reads v.written.each c.requires.index).long

pub record_at-requires : goal.record_at-requires
record_at-requires c =
    let h = heap_of c.args.arena.now in
    let v = c.requires.values in
    let s = stands h c.args.list.count c.args.list.offset v.members v.met c.args.index v.reads v.written.each c.requires.index in
    is-some _ s.written.value (ap (value_record_at h) c.cell_of.ensures ∙ s.written.reads)

pub fill_data-requires-clause-data : goal.fill_data-requires-clause-data
fill_data-requires-clause-data c =
    let h = heap_of c.args.arena.now in
    let v = c.requires.values in
    let s = stands h c.args.list.count c.args.list.offset v.members v.met c.args.index v.reads v.written.each c.requires.index in
    let r = ap (value_record_at h) (sym c.cell_of.ensures) ∙ c.record_at.ensures in
    is-some _ _ (told-data h c.args.list.offset v.members c.args.index s _ _ r)

pub fill_data-requires-clause-room : goal.fill_data-requires-clause-room
fill_data-requires-clause-room c = λ all met e.
    let h = heap_of c.args.arena.now in
    let v = c.requires.values in
    let s = stands h c.args.list.count c.args.list.offset v.members v.met c.args.index v.reads v.written.each c.requires.index in
    let r = ap (value_record_at h) (sym c.cell_of.ensures) ∙ c.record_at.ensures in
    let same = same_Some _ _ (sym (told-data h c.args.list.offset v.members c.args.index s _ _ r) ∙ e) in
    subst (λ (xs : List ℕ). length xs ≤ length c.args.room.now) (ap (λ (p : List ℕ × List Found). p.0) same) (c.requires.room v.members v.met v.reads s.member s.at)

pub returns : goal.returns
returns c = λ members met e.
    let h = heap_of c.args.arena.now in
    let s = stands h c.args.list.count c.args.list.offset members met c.args.index e c.requires.values.written.each c.requires.index in
    let r = ap (value_record_at h) (sym c.cell_of.ensures) ∙ c.record_at.ensures in
    (s.member, s.at, c.fill_data.ensures s.member.bytes _ (told-data h c.args.list.offset members c.args.index s _ _ r))
