use Rattle.std.proofs.Common.{true, false, cond, [], ap, sym, ◌∙◌, subst, length, arith, refl}
use Rattle.reg_heap.specs.Paths.{Member}
use Rattle.reg_arena.specs.Arena.{heap_of}
use Rattle.reg_arena.specs.NewCells.{total_of, AreSizes}
use Rattle.reg_values.specs.ValueLists.{Makes}
use Rattle.reg_values.specs.ValueSizes.{data_sizes}
use Rattle.reg_values.proofs.ValueData.NewCellRoom.{new-room}
use Rattle.reg_values.proofs.ValueData.CellSizeTotals.{data-ok, data-total}
use Rattle.reg_values.proofs.ValueChanges.KeptSizes.{new-first}
use Rattle.reg_values.proofs.ValueChanges.ValueReplaced.{old-there, owns-new, written-new, record-new, exchanged-new, made-new, replace-sizes, new-cells}
use Rattle.reg_values.proofs.replace.replace.Goals as goal

pub stays-requires : goal.stays-requires
stays-requires c = λ l. old-there (heap_of c.args.arena.now) c.args.cell c.requires.owns c.requires.written c.record_at.result.fields _ c.record_at.ensures l

pub plan_replace-requires-clause-old : goal.plan_replace-requires-clause-old
plan_replace-requires-clause-old c = λ l. old-there (heap_of c.args.arena.now) c.args.cell c.requires.owns c.requires.written c.record_at.result.fields _ c.record_at.ensures l

pub returns-then-stays-clause-cells : goal.returns-then-stays-clause-cells
returns-then-stays-clause-cells c =
    let h0 = heap_of c.args.arena.now in
    subst (Makes h0 (heap_of c.rewrite.new.arena)) (sym (replace-sizes h0 c.args.cell (length c.args.bytes.now) _ true c.record_at.ensures
    (sym c.stays.ensures ∙ c.if-stays.true))) c.rewrite.ensures.cells

pub carve-requires-clause-sizes : goal.carve-requires-clause-sizes
carve-requires-clause-sizes c =
    let z = c.deref.ensures.value ∙ (c.in-Ok.ensures ∙ ap (λ b. cond b [] (data_sizes (length c.args.bytes.now))) (sym c.stays.ensures ∙ c.if-stays.false)) in
    subst AreSizes (sym z) (data-ok (length c.args.bytes.now))

pub carve-requires-clause-total : goal.carve-requires-clause-total
carve-requires-clause-total c =
    let z = c.deref.ensures.value ∙ (c.in-Ok.ensures ∙ ap (λ b. cond b [] (data_sizes (length c.args.bytes.now))) (sym c.stays.ensures ∙ c.if-stays.false)) in
    let t = data-total (length c.args.bytes.now) c.requires.bytes in
    let e = ap total_of z in
    omega (arith, t, e)

pub exchange-requires-clause-owns : goal.exchange-requires-clause-owns
exchange-requires-clause-owns c =
    let h0 = heap_of c.args.arena.now in
    let h1 = heap_of c.carve.new.arena in
    let z = c.deref.ensures.value ∙ (c.in-Ok.ensures ∙ ap (λ b. cond b [] (data_sizes (length c.args.bytes.now))) (sym c.stays.ensures ∙ c.if-stays.false)) in
    let a = new-cells h0 h1 c.in_ok-cells.cells.items c.deref-2.result.now c.deref.result.now (data_sizes (length c.args.bytes.now)) c.in_ok-cells.ensures.ok c.deref-2.ensures.value z in
    owns-new h0 h1 c.args.cell c.deref-2.result.now _ c.requires.owns c.requires.written a

pub exchange-requires-clause-written : goal.exchange-requires-clause-written
exchange-requires-clause-written c =
    let h0 = heap_of c.args.arena.now in
    let h1 = heap_of c.carve.new.arena in
    let z = c.deref.ensures.value ∙ (c.in-Ok.ensures ∙ ap (λ b. cond b [] (data_sizes (length c.args.bytes.now))) (sym c.stays.ensures ∙ c.if-stays.false)) in
    let a = new-cells h0 h1 c.in_ok-cells.cells.items c.deref-2.result.now c.deref.result.now (data_sizes (length c.args.bytes.now)) c.in_ok-cells.ensures.ok c.deref-2.ensures.value z in
    written-new h0 h1 c.args.cell c.deref-2.result.now _ c.requires.owns c.requires.written a

pub exchange-requires-clause-record_is : goal.exchange-requires-clause-record_is
exchange-requires-clause-record_is c =
    let h0 = heap_of c.args.arena.now in
    let h1 = heap_of c.carve.new.arena in
    let z = c.deref.ensures.value ∙ (c.in-Ok.ensures ∙ ap (λ b. cond b [] (data_sizes (length c.args.bytes.now))) (sym c.stays.ensures ∙ c.if-stays.false)) in
    let a = new-cells h0 h1 c.in_ok-cells.cells.items c.deref-2.result.now c.deref.result.now (data_sizes (length c.args.bytes.now)) c.in_ok-cells.ensures.ok c.deref-2.ensures.value z in
    (_, record-new h0 h1 c.args.cell c.deref-2.result.now _ c.requires.owns c.requires.written a _ c.record_at.ensures)

pub exchange-requires-clause-cells : goal.exchange-requires-clause-cells
exchange-requires-clause-cells c =
    let h0 = heap_of c.args.arena.now in
    let h1 = heap_of c.carve.new.arena in
    let z = c.deref.ensures.value ∙ (c.in-Ok.ensures ∙ ap (λ b. cond b [] (data_sizes (length c.args.bytes.now))) (sym c.stays.ensures ∙ c.if-stays.false)) in
    let a = new-cells h0 h1 c.in_ok-cells.cells.items c.deref-2.result.now c.deref.result.now (data_sizes (length c.args.bytes.now)) c.in_ok-cells.ensures.ok c.deref-2.ensures.value z in
    new-room h0 h1 c.deref-2.result.now _ a

pub returns-clause-value : goal.returns-clause-value
returns-clause-value c = λ m met e.
    let h0 = heap_of c.args.arena.now in
    let h1 = heap_of c.carve.new.arena in
    let z = c.deref.ensures.value ∙ (c.in-Ok.ensures ∙ ap (λ b. cond b [] (data_sizes (length c.args.bytes.now))) (sym c.stays.ensures ∙ c.if-stays.false)) in
    let a = new-cells h0 h1 c.in_ok-cells.cells.items c.deref-2.result.now c.deref.result.now (data_sizes (length c.args.bytes.now)) c.in_ok-cells.ensures.ok c.deref-2.ensures.value z in
    let m2 : Member = record { name = []; kind = c.args.kind; bytes = c.args.bytes.now } in
    exchanged-new h0 h1 c.args.cell c.deref-2.result.now _ c.requires.owns c.requires.written a (heap_of c.exchange.new.arena) m m2 met e c.exchange.ensures.value

pub returns-clause-cells : goal.returns-clause-cells
returns-clause-cells c =
    let h0 = heap_of c.args.arena.now in
    let h1 = heap_of c.carve.new.arena in
    let z = c.deref.ensures.value ∙ (c.in-Ok.ensures ∙ ap (λ b. cond b [] (data_sizes (length c.args.bytes.now))) (sym c.stays.ensures ∙ c.if-stays.false)) in
    let a = new-cells h0 h1 c.in_ok-cells.cells.items c.deref-2.result.now c.deref.result.now c.deref.result.now c.in_ok-cells.ensures.ok c.deref-2.ensures.value refl in
    subst (Makes h0 (heap_of c.exchange.new.arena)) (sym (replace-sizes h0 c.args.cell (length c.args.bytes.now) _ false c.record_at.ensures (sym c.stays.ensures ∙ c.if-stays.false)))
    (made-new h0 h1 (heap_of c.exchange.new.arena) c.deref-2.result.now c.deref.result.now (length c.args.bytes.now) a z c.exchange.ensures.keeps)

pub returns-clause-stay : goal.returns-clause-stay
returns-clause-stay c =
    let h0 = heap_of c.args.arena.now in
    let h1 = heap_of c.carve.new.arena in
    new-first h0 h1 (heap_of c.exchange.new.arena) _ c.in_ok-cells.ensures.ok.come c.exchange.ensures.stay
