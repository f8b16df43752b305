use Rattle.std.proofs.Common.{sym, ap, ◌∙◌}
use Rattle.reg_arena.specs.Arena.{heap_of}
use Rattle.reg_records.specs.KeyValues.{value_record_at}
use Rattle.reg_values.proofs.ValueListing.FoundValues.{is-some, stands}
use Rattle.reg_values.proofs.ValueData.DataForms.{told-name, told-kind, told-size}
use Rattle.reg_values.proofs.finding.at.Goals as goal

pub cell_of-requires-clause-list : goal.cell_of-requires-clause-list
cell_of-requires-clause-list c =
    let v = c.requires.values in (stands (heap_of c.args.arena.now) c.args.list.count c.args.list.offset v.members v.met c.args.index v.reads v.written.each c.requires.index).list_here

pub cell_of-requires-clause-index : goal.cell_of-requires-clause-index
cell_of-requires-clause-index c =
    let v = c.requires.values in (stands (heap_of c.args.arena.now) c.args.list.count c.args.list.offset v.members v.met c.args.index v.reads v.written.each c.requires.index).long

pub record_at-record-requires : goal.record_at-record-requires
record_at-record-requires c =
    let v = c.requires.values in
    let s = stands (heap_of c.args.arena.now) c.args.list.count c.args.list.offset v.members v.met c.args.index v.reads v.written.each c.requires.index in
    is-some _ s.written.value (ap (value_record_at (heap_of c.args.arena.now)) c.cell_of.ensures ∙ s.written.reads)

pub returns : goal.returns
returns c = λ members met e.
    let v = c.requires.values in
    let h = heap_of c.args.arena.now in
    let s = stands h c.args.list.count c.args.list.offset members met c.args.index e v.written.each c.requires.index in
    let r = ap (value_record_at h) (sym c.cell_of.ensures) ∙ c.record_at-record.ensures in (
      s.member,
      s.at,
      record {
        name_is = sym (told-name h c.args.list.offset members c.args.index s _ _ r);
        kind_is = sym (told-kind h c.args.list.offset members c.args.index s _ _ r);
        size_is = c.size_in.ensures ∙ sym (told-size h c.args.list.offset members c.args.index s _ _ r);
      },
    )
