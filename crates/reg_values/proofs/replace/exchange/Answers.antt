use Rattle.reg_arena.specs.Arena.{heap_of}
use Rattle.reg_values.proofs.ValueListing.FoundValues.{is-some}
use Rattle.reg_values.proofs.ValueData.FilledCells.{fills-cell}
use Rattle.reg_values.proofs.ValueChanges.KeptSizes.{fills-first, gives-keeps}
use Rattle.reg_values.proofs.ValueChanges.ValueReplaced.{record-kept2, plain-kept2, data-owns3, data-gone, keeps-cells, exchanged}
use Rattle.reg_values.proofs.replace.exchange.Goals as goal

pub set_data-requires : goal.set_data-requires
set_data-requires c =
    let r = c.requires.record_is in
    let h1 = heap_of c.args.arena.now in
    let h2 = heap_of c.put_data-data.new.arena in
    is-some _ _ (record-kept2 h1 h2 h2 c.args.cell c.args.cells.now c.requires.owns c.requires.written c.args.old r.0 r.1 c.put_data-data.ensures.fills)

pub free_data-requires : goal.free_data-requires
free_data-requires c =
    let r = c.requires.record_is in
    let h1 = heap_of c.args.arena.now in
    let h2 = heap_of c.put_data-data.new.arena in
    let h3 = heap_of c.set_data.new.arena in
    data-owns3 h1 h2 h3 c.args.cell c.args.cells.now c.requires.owns c.requires.written c.args.old r.0 r.1 c.put_data-data.ensures.fills (fills-cell _ _ c.args.cell _ c.set_data.ensures.written)

pub returns-clause-value : goal.returns-clause-value
returns-clause-value c = λ m met e.
    let r = c.requires.record_is in
    let h1 = heap_of c.args.arena.now in
    let h2 = heap_of c.put_data-data.new.arena in
    let h3 = heap_of c.set_data.new.arena in
    let k = record-kept2 h1 h2 h3 c.args.cell c.args.cells.now c.requires.owns c.requires.written c.args.old r.0 r.1 c.put_data-data.ensures.fills in
    let p = plain-kept2 h1 h2 h3 c.args.cell c.args.cells.now c.requires.owns c.requires.written c.args.old r.0 r.1 c.put_data-data.ensures.fills in
    exchanged h1 h2 h3 c.args.cell c.args.cells.now c.requires.owns c.requires.written c.args.old r.0 r.1 c.put_data-data.ensures.fills
    (fills-cell _ _ c.args.cell _ c.set_data.ensures.written) (heap_of c.free_data.new.arena) c.free_data.ensures.gone
    c.put_data-data.result.size c.put_data-data.result.offset c.args.kind c.args.bytes.now c.put_data-data.ensures.holds (c.set_data.ensures.reads _ k) (c.set_data.ensures.plain p) m met e

pub returns-clause-keeps : goal.returns-clause-keeps
returns-clause-keeps c =
    let r = c.requires.record_is in
    let h1 = heap_of c.args.arena.now in
    let h2 = heap_of c.put_data-data.new.arena in
    let h3 = heap_of c.set_data.new.arena in
    keeps-cells h1 h2 h3 c.args.cell c.args.cells.now c.requires.owns c.requires.written c.args.old r.0 r.1 c.put_data-data.ensures.fills
    (fills-cell _ _ c.args.cell _ c.set_data.ensures.written) (heap_of c.free_data.new.arena) c.free_data.ensures.gone

pub returns-clause-stay : goal.returns-clause-stay
returns-clause-stay c =
    let r = c.requires.record_is in
    let h1 = heap_of c.args.arena.now in
    let h2 = heap_of c.put_data-data.new.arena in
    let h3 = heap_of c.set_data.new.arena in
    let h4 = heap_of c.free_data.new.arena in
    let f2 = fills-cell _ _ c.args.cell _ c.set_data.ensures.written in
    let g = data-gone h1 h2 h3 c.args.cell c.args.cells.now c.requires.owns c.requires.written c.args.old r.0 r.1 c.put_data-data.ensures.fills f2 h4 c.free_data.ensures.gone in
    fills-first h1 h2 h4 _ c.put_data-data.ensures.fills (fills-first h2 h3 h4 _ f2 (gives-keeps h3 h4 _ g))
