use Rattle.std.proofs.Common.{◌+◌, ◌*◌, [], get_or, length, refl, ap, sym, subst, arith}
use Rattle.reg_arena.specs.Arena.{heap_of}
use Rattle.reg_records.specs.RecordCells.{HasRoom}
use Rattle.reg_values.specs.declared.making.NewValue.{NewValue}
use Rattle.reg_values.specs.ValueSizes.{data_sizes}
use Rattle.reg_values.specs.NewValues.{told, all_told}
use Rattle.reg_values.proofs.ValueData.CellSizeTotals.{value-name}
use Rattle.reg_values.proofs.ValueData.FilledCells.{fills-cell}
use Rattle.reg_values.proofs.ValueChanges.ValuesPlanned.{small-at, turn, told-length}
use Rattle.reg_values.proofs.ValueChanges.ValuesFilled.{none-filled, within, first-within, one-rooms, one-filled, all-filled, base-of}
use Rattle.reg_values.proofs.making.fill.Goals as goal

-- what stands behind a list's end
abbrev none : NewValue
none = record { name = record { ref_ptr = (0, 0); now = [] }; kind = 0; bytes = record { ref_ptr = (0, 0); now = [] } }

pub loop-index-init : goal.loop-index-init
loop-index-init c = record {
  filled = none-filled (heap_of c.args.arena.now) c.args.list c.args.first c.args.cells.now (all_told c.args.values.now) c.requires.cells;
  long = refl;
}

pub offset_bounds-cells-from : goal.offset_bounds-cells-from
offset_bounds-cells-from c =
    let h0 = heap_of c.args.arena.now in
    let h = heap_of c.loop-index.arena in
    let values = c.args.values.now in
    let i = c.loop-index.index in
    let a = c.loop-index.invariant.filled in
    let here = turn values i none c.loop-index-test.true in
    let w = first-within h0 h c.args.list c.args.first c.args.cells.now (all_told values) i c.loop-index.from a (told (get_or values i none)) here (c.loop-index.from + 1 + length (data_sizes (length (get_or values i none).bytes.now))) refl in
    omega (arith, w)

pub bounds-cells-from : goal.bounds-cells-from
bounds-cells-from c =
    let h0 = heap_of c.args.arena.now in
    let h = heap_of c.loop-index.arena in
    let values = c.args.values.now in
    let i = c.loop-index.index in
    let a = c.loop-index.invariant.filled in
    let here = turn values i none c.loop-index-test.true in
    first-within h0 h c.args.list c.args.first c.args.cells.now (all_told values) i c.loop-index.from a (told (get_or values i none)) here (c.loop-index.from + 1 + length (data_sizes (length (get_or values i none).bytes.now))) refl

pub overflow_add-behind : goal.overflow_add-behind
overflow_add-behind c =
    let h0 = heap_of c.args.arena.now in
    let h = heap_of c.loop-index.arena in
    let values = c.args.values.now in
    let i = c.loop-index.index in
    let a = c.loop-index.invariant.filled in
    let here = turn values i none c.loop-index-test.true in
    let w = first-within h0 h c.args.list c.args.first c.args.cells.now (all_told values) i c.loop-index.from a (told (get_or values i none)) here (c.loop-index.from + 1 + length (data_sizes (length (get_or values i none).bytes.now))) refl in
    omega (arith, w)

pub data_cells-requires : goal.data_cells-requires
data_cells-requires c =
    (small-at c.args.values.now c.loop-index.index none c.requires.small c.loop-index-test.true).bytes

pub overflow_add-behind-in-loop-index : goal.overflow_add-behind-in-loop-index
overflow_add-behind-in-loop-index c =
    let h0 = heap_of c.args.arena.now in
    let h = heap_of c.loop-index.arena in
    let values = c.args.values.now in
    let i = c.loop-index.index in
    let a = c.loop-index.invariant.filled in
    let here = turn values i none c.loop-index-test.true in
    let w = within h0 h c.args.list c.args.first c.args.cells.now (all_told values) i c.loop-index.from a (told (get_or values i none)) here (c.loop-index.from + 1 + c.data_cells.result) (ap (λ n. c.loop-index.from + 1 + n) c.data_cells.ensures) in
    omega (arith, w)

pub overflow_add-from : goal.overflow_add-from
overflow_add-from c =
    let h0 = heap_of c.args.arena.now in
    let h = heap_of c.loop-index.arena in
    let values = c.args.values.now in
    let i = c.loop-index.index in
    let a = c.loop-index.invariant.filled in
    let here = turn values i none c.loop-index-test.true in
    let w = first-within h0 h c.args.list c.args.first c.args.cells.now (all_told values) i c.loop-index.from a (told (get_or values i none)) here (c.loop-index.from + 1 + length (data_sizes (length (get_or values i none).bytes.now))) refl in
    omega (arith, w)

pub offset_bounds-cells-from-in-loop-index : goal.offset_bounds-cells-from-in-loop-index
offset_bounds-cells-from-in-loop-index c =
    let h0 = heap_of c.args.arena.now in
    let h = heap_of c.loop-index.arena in
    let values = c.args.values.now in
    let i = c.loop-index.index in
    let a = c.loop-index.invariant.filled in
    let here = turn values i none c.loop-index-test.true in
    let w = within h0 h c.args.list c.args.first c.args.cells.now (all_told values) i c.loop-index.from a (told (get_or values i none)) here (c.loop-index.from + 1 + c.data_cells.result) (ap (λ n. c.loop-index.from + 1 + n) c.data_cells.ensures) in
    omega (arith, w)

pub slice_bounds-put_value-end : goal.slice_bounds-put_value-end
slice_bounds-put_value-end c =
    let h0 = heap_of c.args.arena.now in
    let h = heap_of c.loop-index.arena in
    let values = c.args.values.now in
    let i = c.loop-index.index in
    let a = c.loop-index.invariant.filled in
    let here = turn values i none c.loop-index-test.true in
    within h0 h c.args.list c.args.first c.args.cells.now (all_told values) i c.loop-index.from a (told (get_or values i none)) here (c.loop-index.from + 1 + c.data_cells.result) (ap (λ n. c.loop-index.from + 1 + n) c.data_cells.ensures)

pub put_value-requires-clause-name : goal.put_value-requires-clause-name
put_value-requires-clause-name c =
    value-name _ (small-at c.args.values.now c.loop-index.index none c.requires.small c.loop-index-test.true).name

pub put_value-requires-clause-small : goal.put_value-requires-clause-small
put_value-requires-clause-small c =
    (small-at c.args.values.now c.loop-index.index none c.requires.small c.loop-index-test.true).bytes

pub put_value-requires-clause-cells : goal.put_value-requires-clause-cells
put_value-requires-clause-cells c =
    let h0 = heap_of c.args.arena.now in
    let h = heap_of c.loop-index.arena in
    let values = c.args.values.now in
    let i = c.loop-index.index in
    let a = c.loop-index.invariant.filled in
    let here = turn values i none c.loop-index-test.true in
    one-rooms h0 h c.args.list c.args.first c.args.cells.now (all_told values) i c.loop-index.from a (told (get_or values i none)) here (c.loop-index.from + 1 + c.data_cells.result) (ap (λ n. c.loop-index.from + 1 + n) c.data_cells.ensures)

pub loop-index-preserved : goal.loop-index-preserved
loop-index-preserved c =
    let h0 = heap_of c.args.arena.now in
    let h = heap_of c.loop-index.arena in
    let values = c.args.values.now in
    let i = c.loop-index.index in
    let a = c.loop-index.invariant.filled in
    let here = turn values i none c.loop-index-test.true in
    let l = c.loop-index.invariant.long in
    let v = c.put_value.ensures.long in
    let o = c.put_offset.ensures.written.long in
    record {
      filled = one-filled h0 h c.args.list c.args.first c.args.cells.now (all_told values) i c.loop-index.from a (told (get_or values i none)) here
          (c.loop-index.from + 1 + c.data_cells.result) (ap (λ n. c.loop-index.from + 1 + n) c.data_cells.ensures)
          c.requires.apart (base-of h0 c.args.list _ c.args.cells.now _ c.requires.cells c.requires.list c.requires.apart)
          (subst (λ n. HasRoom h0 c.args.list (4 * (c.args.first + n))) (sym (told-length values)) c.requires.list)
          (heap_of c.put_value.new.arena) (heap_of c.put_offset.new.arena) c.put_value.ensures.fills c.put_value.ensures.holds
          (fills-cell _ _ c.args.list _ c.put_offset.ensures.written) c.put_offset.ensures.here c.put_offset.ensures.others;
      long = omega (arith, l, v, o);
    }

pub returns-clause-stand : goal.returns-clause-stand
returns-clause-stand c =
    let h0 = heap_of c.args.arena.now in
    let values = c.args.values.now in
    let n = told-length values in
    let f = c.loop-index-test.false in
    let e = c.loop-index.auto.index-end in
    all-filled h0 (heap_of c.loop-index.arena) c.args.list c.args.first c.args.cells.now (all_told values) c.loop-index.index c.loop-index.from c.loop-index.invariant.filled
    (omega (arith, n, f, e))

pub returns-clause-behind : goal.returns-clause-behind
returns-clause-behind c = λ n l.
    let v = told-length c.args.values.now in
    let f = c.loop-index-test.false in
    let e = c.loop-index.auto.index-end in
    c.loop-index.invariant.filled.behind n (omega (arith, l, v, f, e))
