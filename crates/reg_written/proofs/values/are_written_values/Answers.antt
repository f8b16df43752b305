use Rattle.std.proofs.Common.{◌∙◌, sym, ap, arith, length}
use Rattle.reg_arena.specs.Cells.{cell_at}
use Rattle.reg_records.specs.RecordCells.{held}
use Rattle.reg_written.specs.Internal.KeyTests.{is_value_at}
use Rattle.reg_written.specs.Internal.KeyCells.{HasValue}
use Rattle.reg_written.proofs.ValuesRead.{no-values, row-is, value-here, value-turn, value-end}
use Rattle.reg_written.proofs.values.are_written_values.Goals as goal

pub returns-then-key-eq0 : goal.returns-then-key-eq0
returns-then-key-eq0 c = sym (no-values (is_value_at (cell_at c.args.bins.now) c.args.key.now) c.args.key.now.values (held (cell_at c.args.bins.now) c.args.key.now.values_list) c.if-key-eq0.true)

pub offset_at-requires : goal.offset_at-requires
offset_at-requires c =
    let heap = cell_at c.args.bins.now in
    let r = row-is heap c.args.key.now c.args.key.now.values_list c.content-row.result.now c.requires.list c.content-row.ensures (omega (arith, c.loop-index-test.true)) in
    let n = ap length r in
    omega (arith, n, c.requires.long, c.loop-index-test.true)

pub is_written_at-requires : goal.is_written_at-requires
is_written_at-requires c =
    let heap = cell_at c.args.bins.now in
    value-here heap c.args.key.now c.args.key.now.values_list c.content-row.result.now c.requires.list c.content-row.ensures (HasValue heap) c.loop-index.index c.offset_at.result
    c.loop-index-test.true c.offset_at.ensures c.requires.values

pub returns-then-not-is_written_at : goal.returns-then-not-is_written_at
returns-then-not-is_written_at c =
    let heap = cell_at c.args.bins.now in
    let t = value-turn heap c.args.key.now c.args.key.now.values_list c.content-row.result.now c.requires.list c.content-row.ensures c.loop-index.index c.offset_at.result _
    c.loop-index-test.true c.offset_at.ensures (sym c.if-not-is_written_at.true ∙ c.is_written_at.ensures) in
    sym t ∙ c.loop-index.invariant

pub loop-index-preserved : goal.loop-index-preserved
loop-index-preserved c =
    let heap = cell_at c.args.bins.now in
    let t = value-turn heap c.args.key.now c.args.key.now.values_list c.content-row.result.now c.requires.list c.content-row.ensures c.loop-index.index c.offset_at.result _
    c.loop-index-test.true c.offset_at.ensures (sym c.if-not-is_written_at.false ∙ c.is_written_at.ensures) in
    sym t ∙ c.loop-index.invariant

pub returns : goal.returns
returns c =
    let heap = cell_at c.args.bins.now in
    sym (value-end heap c.args.key.now c.args.key.now.values_list c.content-row.result.now c.requires.list c.content-row.ensures c.loop-index.index c.loop-index-test.false)
    ∙ c.loop-index.invariant
