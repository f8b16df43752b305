use Rattle.std.proofs.Common.{◌≤◌, ◌∙◌, sym, ap, Some, None, subst}
use Rattle.reg_arena.specs.Cells.{cell_at}
use Rattle.reg_records.specs.declared.lists.ListForm.TheVariants.{HashLeaf}
use Rattle.reg_records.specs.SubkeyLists.{entries_as}
use Rattle.reg_written.specs.Internal.ShownSiblings.{shown, shown_in}
use Rattle.reg_written.proofs.EntriesRead.{turn, turn-end, as-many}
use Rattle.reg_written.proofs.subkeys.with_entries.Goals as goal

pub returns-in_err-siblings : goal.returns-in_err-siblings
returns-in_err-siblings c =
    let t = turn (cell_at c.args.bins.now) c.args.parent c.args.fields.now (entries_as HashLeaf c.args.count 4 c.args.list.now) c.loop-index.index c.entry_at-entry.result
    (shown c.loop-index.siblings) None (c.entry_at-entry.ensures c.args.count c.loop-index-test.true) (c.in_err-siblings.ensures) in
    ap shown_in c.from_residual.ensures ∙ (sym t ∙ c.loop-index.invariant)

pub loop-index-preserved : goal.loop-index-preserved
loop-index-preserved c =
    let t = turn (cell_at c.args.bins.now) c.args.parent c.args.fields.now (entries_as HashLeaf c.args.count 4 c.args.list.now) c.loop-index.index c.entry_at-entry.result
    (shown c.loop-index.siblings) (Some (shown c.in_ok-siblings.siblings)) (c.entry_at-entry.ensures c.args.count c.loop-index-test.true) (c.in_ok-siblings.ensures) in
    sym t ∙ c.loop-index.invariant

pub returns : goal.returns
returns c =
    let l = subst (λ n. n ≤ c.loop-index.index) (sym (as-many HashLeaf c.args.count 4 c.args.list.now)) c.loop-index-test.false in
    sym (turn-end (cell_at c.args.bins.now) c.args.parent c.args.fields.now (entries_as HashLeaf c.args.count 4 c.args.list.now) c.loop-index.index (shown c.loop-index.siblings) l)
    ∙ c.loop-index.invariant
