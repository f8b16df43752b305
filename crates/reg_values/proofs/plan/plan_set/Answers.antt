use Rattle.std.proofs.Common.{length, None, sym, ap, ◌∙◌, ◌≡◌, [], cond}
use Rattle.reg_arena.specs.Arena.{heap_of}
use Rattle.reg_records.specs.KeyValues.{value_record_at}
use Rattle.reg_values.specs.ValueSizes.{data_sizes, stays, sizes_by, set_sizes}
use Rattle.reg_values.proofs.ValueListing.FoundValues.{is-some, named-stands, list-there, is-ok}
use Rattle.reg_values.proofs.ValueData.DataForms.{told-data, told-written, data-there}
use Rattle.reg_values.proofs.ValueChanges.PlannedSizes.{sizes-some, sizes-none}
use Rattle.reg_values.proofs.plan.plan_set.Goals as goal

pub cell_of-requires-clause-list : goal.cell_of-requires-clause-list
cell_of-requires-clause-list c =
    let v = c.requires.values in
    (named-stands (heap_of c.args.arena.now) c.args.list.count c.args.list.offset v c.args.name.now c.in-Some.index (c.in-Some.ensures v.members v.met v.reads)).list_here

pub cell_of-requires-clause-index : goal.cell_of-requires-clause-index
cell_of-requires-clause-index c =
    let v = c.requires.values in
    (named-stands (heap_of c.args.arena.now) c.args.list.count c.args.list.offset v c.args.name.now c.in-Some.index (c.in-Some.ensures v.members v.met v.reads)).long

pub record_at-requires : goal.record_at-requires
record_at-requires c =
    let h = heap_of c.args.arena.now in
    let v = c.requires.values in
    let s = named-stands h c.args.list.count c.args.list.offset v c.args.name.now c.in-Some.index (c.in-Some.ensures v.members v.met v.reads) in
    is-some _ s.written.value (ap (value_record_at h) c.cell_of.ensures ∙ s.written.reads)

pub plan_replace-requires-clause-old : goal.plan_replace-requires-clause-old
plan_replace-requires-clause-old c = λ l.
    let h = heap_of c.args.arena.now in
    let v = c.requires.values in
    let s = named-stands h c.args.list.count c.args.list.offset v c.args.name.now c.in-Some.index (c.in-Some.ensures v.members v.met v.reads) in
    let r = ap (value_record_at h) (sym c.cell_of.ensures) ∙ c.record_at.ensures in
    data-there h c.record_at.result.fields s.member.bytes _ (told-data h c.args.list.offset v.members c.in-Some.index s _ _ r) (told-written h c.args.list.offset v.members c.in-Some.index s _ _ r) l

pub returns-in-Some : goal.returns-in-Some
returns-in-Some c =
    let h = heap_of c.args.arena.now in
    let v = c.requires.values in
    let r = ap (value_record_at h) (sym c.cell_of.ensures) ∙ c.record_at.ensures in
    is-ok (λ sizes. sizes.items ≡ cond (stays h c.record_at.result.fields c.args.size) [] (data_sizes c.args.size))
    (λ sizes. sizes.items ≡ set_sizes h c.args.list.count c.args.list.offset c.args.name.now c.args.size) c.plan_replace.result
    (λ sizes f. f ∙ sizes-some h c.args.list.count c.args.list.offset c.args.name.now c.args.size v.members v.met v.reads c.in-Some.index _
    (c.in-Some.ensures v.members v.met v.reads) r) c.plan_replace.ensures

pub plan_add-requires-clause-list : goal.plan_add-requires-clause-list
plan_add-requires-clause-list c = λ l. list-there (heap_of c.args.arena.now) c.args.list.count c.args.list.offset c.requires.values l

pub returns-in-None : goal.returns-in-None
returns-in-None c =
    let h = heap_of c.args.arena.now in
    let v = c.requires.values in
    is-ok (λ sizes. sizes.items ≡ sizes_by h c.args.list.count c.args.list.offset (length c.args.name.now) c.args.size None)
    (λ sizes. sizes.items ≡ set_sizes h c.args.list.count c.args.list.offset c.args.name.now c.args.size) c.plan_add.result
    (λ sizes f. f ∙ sizes-none h c.args.list.count c.args.list.offset c.args.name.now c.args.size v.members v.met v.reads (c.in-None.ensures v.members v.met v.reads)) c.plan_add.ensures
