use Rattle.std.proofs.Common.{drop}
use Rattle.std.specs.List.{AllByRecursion}
use Rattle.std.specs.Prelude.{◌↔◌}
use Rattle.reg_arena.specs.Cells.{cell_at}
use Rattle.reg_shape.specs.Whole.{IsWritten}
use Rattle.reg_written.proofs.keys.are_written.Given as goal

abbrev pub invariant-loop-key : goal.invariant-loop-key
invariant-loop-key l =
    AllByRecursion (IsWritten (cell_at l.bins) l.root) (drop l.key-index l.keys) ↔ AllByRecursion (IsWritten (cell_at l.bins) l.root) l.keys
