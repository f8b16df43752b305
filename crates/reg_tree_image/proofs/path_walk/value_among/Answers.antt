use Rattle.std.proofs.Common.{sym, ◌∙◌, arith}
use Rattle.reg_arena.specs.Cells.{cell_at}
use Rattle.reg_records.specs.OffsetRows.{offsets_at}
use Rattle.reg_values.proofs.ValueListing.ValueListOpening.{length-offsets}
use Rattle.reg_tree_image.proofs.Readers.ValueRows.{next-offset}
use Rattle.reg_tree_image.proofs.Readers.PathValues.{value-exit, value-found, value-passed, no-value-left}
use Rattle.reg_tree_image.proofs.path_walk.value_among.Goals as goal

pub returns-in_err-named : goal.returns-in_err-named
returns-in_err-named c path =
    value-exit (cell_at c.args.bins.now) c.args.minor path c.args.name.now (offsets_at c.args.count 0 c.args.row.now) _ c.loop-index.index _
    (c.loop-index.invariant path)
    c.offset_at-offset.result (next-offset c.args.count c.args.row.now c.loop-index.index c.offset_at-offset.result c.loop-index-test.true
    c.offset_at-offset.ensures) _ _ _
    c.from_residual.ensures.1 (c.in_err-named.ensures.follows path)

pub returns-then-is_value_named : goal.returns-then-is_value_named
returns-then-is_value_named c path =
    value-found (cell_at c.args.bins.now) c.args.minor path c.args.name.now (offsets_at c.args.count 0 c.args.row.now) _ c.loop-index.index _
    (c.loop-index.invariant path)
    c.offset_at-offset.result (next-offset c.args.count c.args.row.now c.loop-index.index c.offset_at-offset.result c.loop-index-test.true
    c.offset_at-offset.ensures) _
    c.in_ok-named.named (c.in_ok-named.ensures.follows path) _ _ (sym c.is_value_named.ensures ∙ c.if-is_value_named.true) (c.read_found.ensures path)

pub loop-index-preserved : goal.loop-index-preserved
loop-index-preserved c path r new f =
    value-passed (cell_at c.args.bins.now) c.args.minor path c.args.name.now (offsets_at c.args.count 0 c.args.row.now) _ c.loop-index.index _
    (c.loop-index.invariant path)
    c.offset_at-offset.result (next-offset c.args.count c.args.row.now c.loop-index.index c.offset_at-offset.result c.loop-index-test.true
    c.offset_at-offset.ensures) _
    c.in_ok-named.named (c.in_ok-named.ensures.follows path) new r (sym c.is_value_named.ensures ∙ c.if-is_value_named.false) f

pub returns : goal.returns
returns c path =
    no-value-left (cell_at c.args.bins.now) c.args.minor path c.args.name.now (offsets_at c.args.count 0 c.args.row.now) _ c.loop-index.index _
    (c.loop-index.invariant path)
    (omega (arith, length-offsets c.args.count 0 c.args.row.now, c.loop-index-test.false))
