use Rattle.std.proofs.Common.{◌≡◌, drop}
use Rattle.reg_arena.specs.Cells.{cell_at}
use Rattle.reg_records.specs.declared.lists.ListForm.TheVariants.{HashLeaf}
use Rattle.reg_records.specs.SubkeyLists.{entries_as}
use Rattle.reg_written.specs.Internal.KeyTests.{with_entries}
use Rattle.reg_written.specs.Internal.ShownSiblings.{shown}
use Rattle.reg_written.proofs.subkeys.with_entries.Given as goal

abbrev pub invariant-loop-index : goal.invariant-loop-index
invariant-loop-index l =
    with_entries (cell_at l.bins) l.parent l.fields (drop l.index (entries_as HashLeaf l.count 4 l.list)) (shown l.siblings)
    ≡ with_entries (cell_at l.bins) l.parent l.fields (entries_as HashLeaf l.count 4 l.list) (shown l.before)
