use Rattle.std.proofs.Common.{ℕ, List, Bor, refl, arith}
use Rattle.reg_arena.specs.Cells.{cell_at}
use Rattle.reg_heap.specs.Kinds.Kind.{ValueList}
use Rattle.reg_records.specs.OffsetRows.{offsets_at}
use Rattle.reg_tree_image.proofs.Readers.PathValues.{row-fails, row-read}
use Rattle.reg_tree_image.proofs.path_walk.value_from.Goals as goal

pub returns-in_err-row : goal.returns-in_err-row
returns-in_err-row c path =
    row-fails (cell_at c.args.bins.now) c.args.minor path c.args.name.now c.args.count c.args.offset c.if-count-eq0.false (omega arith)
    (λ (x : Bor (List ℕ)). offsets_at c.args.count 0 x.now) _ _ _ _ c.from_residual.ensures.1 (c.in_err-row.ensures.follows path ValueList refl)

pub returns : goal.returns
returns c path =
    row-read (cell_at c.args.bins.now) c.args.minor path c.args.name.now c.args.count c.args.offset c.if-count-eq0.false (omega arith)
    (λ (x : Bor (List ℕ)). offsets_at c.args.count 0 x.now) _ _ _ c.in_ok-row.row _ (c.in_ok-row.ensures.follows path ValueList refl)
    (c.value_among.ensures path)
