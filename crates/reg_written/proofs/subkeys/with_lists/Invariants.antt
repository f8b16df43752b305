use Rattle.std.proofs.Common.{◌≡◌, drop}
use Rattle.reg_arena.specs.Cells.{cell_at}
use Rattle.reg_records.specs.declared.lists.ListForm.TheVariants.{IndexRoot}
use Rattle.reg_records.specs.SubkeyLists.{entries_as}
use Rattle.reg_written.specs.Internal.KeyTests.{with_lists}
use Rattle.reg_written.specs.Internal.ShownSiblings.{shown}
use Rattle.reg_written.proofs.subkeys.with_lists.Given as goal

abbrev pub invariant-loop-index : goal.invariant-loop-index
invariant-loop-index l =
    with_lists (cell_at l.bins) l.parent l.fields (drop l.index (entries_as IndexRoot l.count 4 l.root)) (shown l.siblings)
    ≡ with_lists (cell_at l.bins) l.parent l.fields (entries_as IndexRoot l.count 4 l.root) (shown l.before)
