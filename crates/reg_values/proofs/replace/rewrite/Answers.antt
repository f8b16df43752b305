use Rattle.std.proofs.Common.{arith}
use Rattle.reg_arena.specs.Arena.{heap_of}
use Rattle.reg_values.proofs.ValueListing.FoundValues.{is-some}
use Rattle.reg_values.proofs.ValueData.FilledCells.{fills-cell}
use Rattle.reg_values.proofs.ValueChanges.ValueReplaced.{offset-there, offset-room, record-kept, plain-kept, rewritten, makes-none, sizes-stay}
use Rattle.reg_values.proofs.replace.rewrite.Goals as goal

pub write-requires-clause-exists : goal.write-requires-clause-exists
write-requires-clause-exists c =
    let r = c.requires.record_is in
    offset-there (heap_of c.args.arena.now) (heap_of c.args.arena.now)
    (heap_of c.args.arena.now) c.args.cell c.requires.owns c.requires.written c.args.old r.0 r.1 c.args.bytes.now c.requires.stays

pub write-requires-clause-fits : goal.write-requires-clause-fits
write-requires-clause-fits c =
    let r = c.requires.record_is in
    let e = (offset-room (heap_of c.args.arena.now) (heap_of c.args.arena.now)
    (heap_of c.args.arena.now) c.args.cell c.requires.owns c.requires.written c.args.old r.0 r.1 c.args.bytes.now c.requires.stays).enough in
    omega (arith, e)

pub set_data-requires : goal.set_data-requires
set_data-requires c =
    let r = c.requires.record_is in
    let h0 = heap_of c.args.arena.now in
    let h1 = heap_of c.write.new.self in
    is-some _ _ (record-kept h0 h1 h1 c.args.cell c.requires.owns c.requires.written c.args.old r.0 r.1 c.args.bytes.now c.requires.stays c.write.ensures.written c.write.ensures.writes)

pub returns-clause-value : goal.returns-clause-value
returns-clause-value c = λ m met e.
    let r = c.requires.record_is in
    let h0 = heap_of c.args.arena.now in
    let h1 = heap_of c.write.new.self in
    let h2 = heap_of c.set_data.new.arena in
    let k = record-kept h0 h1 h2 c.args.cell c.requires.owns c.requires.written c.args.old r.0 r.1 c.args.bytes.now c.requires.stays c.write.ensures.written c.write.ensures.writes in
    let p = plain-kept h0 h1 h2 c.args.cell c.requires.owns c.requires.written c.args.old r.0 r.1 c.args.bytes.now c.requires.stays c.write.ensures.written c.write.ensures.writes in
    rewritten h0 h1 h2 c.args.cell c.requires.owns c.requires.written c.args.old r.0 r.1 c.args.bytes.now c.requires.stays c.write.ensures.written
    c.write.ensures.writes c.args.kind (fills-cell _ _ c.args.cell _ c.set_data.ensures.written) (c.set_data.ensures.reads _ k)
    (c.set_data.ensures.plain p) m met e

pub returns-clause-cells : goal.returns-clause-cells
returns-clause-cells c =
    let r = c.requires.record_is in
    let h0 = heap_of c.args.arena.now in
    let h1 = heap_of c.write.new.self in
    let h2 = heap_of c.set_data.new.arena in
    let k = record-kept h0 h1 h2 c.args.cell c.requires.owns c.requires.written c.args.old r.0 r.1 c.args.bytes.now c.requires.stays c.write.ensures.written c.write.ensures.writes in
    let p = plain-kept h0 h1 h2 c.args.cell c.requires.owns c.requires.written c.args.old r.0 r.1 c.args.bytes.now c.requires.stays c.write.ensures.written c.write.ensures.writes in
    makes-none h0 h1 h2 c.args.cell c.requires.owns c.requires.written c.args.old r.0 r.1 c.args.bytes.now c.requires.stays c.write.ensures.written
    c.write.ensures.writes c.args.kind (fills-cell _ _ c.args.cell _ c.set_data.ensures.written) (c.set_data.ensures.reads _ k)
    (c.set_data.ensures.plain p)

pub returns-clause-stay : goal.returns-clause-stay
returns-clause-stay c =
    let r = c.requires.record_is in
    let h0 = heap_of c.args.arena.now in
    let h1 = heap_of c.write.new.self in
    let h2 = heap_of c.set_data.new.arena in
    let k = record-kept h0 h1 h2 c.args.cell c.requires.owns c.requires.written c.args.old r.0 r.1 c.args.bytes.now c.requires.stays c.write.ensures.written c.write.ensures.writes in
    let p = plain-kept h0 h1 h2 c.args.cell c.requires.owns c.requires.written c.args.old r.0 r.1 c.args.bytes.now c.requires.stays c.write.ensures.written c.write.ensures.writes in
    sizes-stay h0 h1 h2 c.args.cell c.requires.owns c.requires.written c.args.old r.0 r.1 c.args.bytes.now c.requires.stays c.write.ensures.written
    c.write.ensures.writes c.args.kind (fills-cell _ _ c.args.cell _ c.set_data.ensures.written) (c.set_data.ensures.reads _ k)
    (c.set_data.ensures.plain p)
