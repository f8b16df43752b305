use Rattle.std.proofs.Common.{length, arith}
use Rattle.reg_values.proofs.ValueData.CellSizeTotals.{data-total, value-name}
use Rattle.reg_values.proofs.plan.value_size.Goals as goal

pub overflow_add-result : goal.overflow_add-result
overflow_add-result c =
    let s = c.cell_size.ensures.size in
    let d = c.data_size.ensures in
    let t = data-total (length c.args.value.now.bytes.now) c.requires.bytes in
    let n = value-name c.args.value.now.name.now c.requires.name in
    omega (arith, s, d, t, n)
