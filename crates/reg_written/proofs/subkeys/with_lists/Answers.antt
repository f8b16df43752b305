use Rattle.std.proofs.Common.{◌≤◌, ◌∙◌, sym, ap, Some, None, subst}
use Rattle.std.specs.Option.{option_and_then}
use Rattle.reg_arena.specs.Cells.{cell_at}
use Rattle.reg_records.specs.declared.lists.ListForm.TheVariants.{IndexRoot}
use Rattle.reg_records.specs.SubkeyLists.{entries_as, list_of}
use Rattle.reg_written.specs.Internal.KeyTests.{with_list_in}
use Rattle.reg_written.specs.Internal.ShownSiblings.{shown, shown_in}
use Rattle.reg_written.specs.Internal.KeyCells.{HasList, HasKeys}
use Rattle.reg_written.proofs.CellsRead.{all-here, here-is, held-is}
use Rattle.reg_written.proofs.EntriesRead.{list-turn, list-turn-end, as-many}
use Rattle.reg_written.proofs.subkeys.with_lists.Goals as goal

pub with_list-requires : goal.with_list-requires
with_list-requires c =
    let heap = cell_at c.args.bins.now in
    let h = all-here (HasList heap) (entries_as IndexRoot c.args.count 4 c.args.root.now) c.loop-index.index c.entry_at-entry.result c.requires.lists
    (c.entry_at-entry.ensures c.args.count c.loop-index-test.true) in
    subst (HasKeys heap) (held-is heap c.entry_at-entry.result.offset c.content-list.result.now h.0 c.content-list.ensures) h.1

pub returns-in_err-siblings : goal.returns-in_err-siblings
returns-in_err-siblings c =
    let heap = cell_at c.args.bins.now in
    let at = c.entry_at-entry.ensures c.args.count c.loop-index-test.true in
    let h = all-here (HasList heap) (entries_as IndexRoot c.args.count 4 c.args.root.now) c.loop-index.index c.entry_at-entry.result c.requires.lists at in
    let list = ap (λ o. with_list_in heap c.args.parent c.args.fields.now (option_and_then list_of o) (shown c.loop-index.siblings))
    (here-is heap c.entry_at-entry.result.offset c.content-list.result.now h.0 c.content-list.ensures) in
    let t = list-turn heap c.args.parent c.args.fields.now (entries_as IndexRoot c.args.count 4 c.args.root.now) c.loop-index.index c.entry_at-entry.result
    (shown c.loop-index.siblings) None at (c.in_err-siblings.ensures ∙ sym list) in
    ap shown_in c.from_residual.ensures ∙ (sym t ∙ c.loop-index.invariant)

pub loop-index-preserved : goal.loop-index-preserved
loop-index-preserved c =
    let heap = cell_at c.args.bins.now in
    let at = c.entry_at-entry.ensures c.args.count c.loop-index-test.true in
    let h = all-here (HasList heap) (entries_as IndexRoot c.args.count 4 c.args.root.now) c.loop-index.index c.entry_at-entry.result c.requires.lists at in
    let list = ap (λ o. with_list_in heap c.args.parent c.args.fields.now (option_and_then list_of o) (shown c.loop-index.siblings))
    (here-is heap c.entry_at-entry.result.offset c.content-list.result.now h.0 c.content-list.ensures) in
    let t = list-turn heap c.args.parent c.args.fields.now (entries_as IndexRoot c.args.count 4 c.args.root.now) c.loop-index.index c.entry_at-entry.result
    (shown c.loop-index.siblings) (Some (shown c.in_ok-siblings.siblings)) at (c.in_ok-siblings.ensures ∙ sym list) in
    sym t ∙ c.loop-index.invariant

pub returns : goal.returns
returns c =
    let l = subst (λ n. n ≤ c.loop-index.index) (sym (as-many IndexRoot c.args.count 4 c.args.root.now)) c.loop-index-test.false in
    sym (list-turn-end (cell_at c.args.bins.now) c.args.parent c.args.fields.now (entries_as IndexRoot c.args.count 4 c.args.root.now) c.loop-index.index (shown c.loop-index.siblings) l)
    ∙ c.loop-index.invariant
