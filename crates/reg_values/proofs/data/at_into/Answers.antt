use Rattle.std.proofs.Common.{sym, ap, ◌∙◌, ◌≤◌, List, ℕ, length, subst, arith}
use Rattle.std.proofs.lemmas.Option.{same_Some}
use Rattle.reg_heap.specs.Kinds.{Found}
use Rattle.reg_arena.specs.Arena.{heap_of}
use Rattle.reg_records.specs.KeyValues.{value_record_at}
use Rattle.reg_values.proofs.ValueListing.FoundValues.{is-some, stands}
use Rattle.reg_values.proofs.ValueData.DataForms.{told-name, told-kind, told-size, told-data}
use Rattle.reg_values.proofs.ValueData.FittedRooms.{fits, fits-not}
use Rattle.reg_values.proofs.data.at_into.Goals as goal

pub cell_of-requires-clause-list : goal.cell_of-requires-clause-list
cell_of-requires-clause-list c =
    let v = c.requires.values in (stands (heap_of c.args.arena.now) c.args.list.count c.args.list.offset v.members v.met c.args.index v.reads v.written.each c.requires.index).list_here

pub cell_of-requires-clause-index : goal.cell_of-requires-clause-index
cell_of-requires-clause-index c =
    let v = c.requires.values in (stands (heap_of c.args.arena.now) c.args.list.count c.args.list.offset v.members v.met c.args.index v.reads v.written.each c.requires.index).long

pub record_at-record-requires : goal.record_at-record-requires
record_at-record-requires c =
    let h = heap_of c.args.arena.now in
    let v = c.requires.values in
    let s = stands h c.args.list.count c.args.list.offset v.members v.met c.args.index v.reads v.written.each c.requires.index in
    is-some _ s.written.value (ap (value_record_at h) c.cell_of.ensures ∙ s.written.reads)

pub returns-then-room-value : goal.returns-then-room-value
returns-then-room-value c = λ members met e.
    let h = heap_of c.args.arena.now in
    let s = stands h c.args.list.count c.args.list.offset members met c.args.index e c.requires.values.written.each c.requires.index in
    let r = ap (value_record_at h) (sym c.cell_of.ensures) ∙ c.record_at-record.ensures in
    let size = c.size_in.ensures ∙ sym (told-size h c.args.list.offset members c.args.index s _ _ r) in (
      s.member,
      s.at,
      record {
        name_is = sym (told-name h c.args.list.offset members c.args.index s _ _ r);
        kind_is = sym (told-kind h c.args.list.offset members c.args.index s _ _ r);
        size_is = size;
      },
      sym (fits-not s.member.bytes c.args.room.now (omega (arith, size, c.if-room-value.true))),
    )

pub fill_data-requires-clause-data : goal.fill_data-requires-clause-data
fill_data-requires-clause-data c =
    let h = heap_of c.args.arena.now in
    let v = c.requires.values in
    let s = stands h c.args.list.count c.args.list.offset v.members v.met c.args.index v.reads v.written.each c.requires.index in
    let r = ap (value_record_at h) (sym c.cell_of.ensures) ∙ c.record_at-record.ensures in
    is-some _ _ (told-data h c.args.list.offset v.members c.args.index s _ _ r)

pub fill_data-requires-clause-room : goal.fill_data-requires-clause-room
fill_data-requires-clause-room c = λ all met e.
    let h = heap_of c.args.arena.now in
    let v = c.requires.values in
    let s = stands h c.args.list.count c.args.list.offset v.members v.met c.args.index v.reads v.written.each c.requires.index in
    let r = ap (value_record_at h) (sym c.cell_of.ensures) ∙ c.record_at-record.ensures in
    let same = same_Some _ _ (sym (told-data h c.args.list.offset v.members c.args.index s _ _ r) ∙ e) in
    let size = c.size_in.ensures ∙ sym (told-size h c.args.list.offset v.members c.args.index s _ _ r) in
    subst (λ (xs : List ℕ). length xs ≤ length c.args.room.now) (ap (λ (p : List ℕ × List Found). p.0) same)
    (omega (arith, size, c.if-room-value.false))

pub returns : goal.returns
returns c = λ members met e.
    let h = heap_of c.args.arena.now in
    let s = stands h c.args.list.count c.args.list.offset members met c.args.index e c.requires.values.written.each c.requires.index in
    let r = ap (value_record_at h) (sym c.cell_of.ensures) ∙ c.record_at-record.ensures in
    let size = c.size_in.ensures ∙ sym (told-size h c.args.list.offset members c.args.index s _ _ r) in (
      s.member,
      s.at,
      record {
        name_is = sym (told-name h c.args.list.offset members c.args.index s _ _ r);
        kind_is = sym (told-kind h c.args.list.offset members c.args.index s _ _ r);
        size_is = size;
      },
      c.fill_data.ensures s.member.bytes _ (told-data h c.args.list.offset members c.args.index s _ _ r)
          ∙ sym (fits s.member.bytes c.args.room.now (omega (arith, size, c.if-room-value.false))),
    )
