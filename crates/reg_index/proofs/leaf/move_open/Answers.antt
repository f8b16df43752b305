use Rattle.std.proofs.Common.{◌+◌, ◌-◌, ◌*◌, arith, take, drop, sym, ◌≢◌}
use Rattle.reg_arena.specs.Arena.{heap_of}
use Rattle.reg_records.specs.RecordCells.{held}
use Rattle.reg_index.proofs.LeafEntries.{length-part}
use Rattle.reg_index.proofs.LeafGaps.{leaf-long, source-long, spliced-long, moved-gap, changed-others}
use Rattle.reg_index.proofs.KeptCells.{kept-copied, kept-freed, kept-then, long-there, is-there}
use Rattle.reg_index.proofs.leaf.move_open.Goals as goal

pub copy-requires-clause-within : goal.copy-requires-clause-within
copy-requires-clause-within c = omega (arith, leaf-long (heap_of c.args.arena.now) c.args.cell c.args.count c.requires.leaf, c.requires.index)

pub copy-requires-2-clause-within : goal.copy-requires-2-clause-within
copy-requires-2-clause-within c =
    let h = heap_of c.args.arena.now in
    omega (arith, source-long h (heap_of c.copy.new.self) c.args.cell c.args.fresh c.args.count c.args.index c.requires.apart c.copy.ensures.written c.requires.leaf, c.requires.index)

pub copy-requires-2-clause-fits : goal.copy-requires-2-clause-fits
copy-requires-2-clause-fits c =
    let h = heap_of c.args.arena.now in
    let room = c.requires.room.enough in
    let all = leaf-long h c.args.cell c.args.count c.requires.leaf in
    let i = c.requires.index in
    let piece = take (8 * c.args.index) (drop 4 (held h c.args.cell)) in
    let long = length-part 4 (8 * c.args.index) (held h c.args.cell) (omega (arith, all, i)) in
    omega (arith, spliced-long h (heap_of c.copy.new.self) c.args.fresh 4 piece (omega (arith, long, room, i)) c.copy.ensures.written, room, i)

pub returns-clause-gap : goal.returns-clause-gap
returns-clause-gap c =
    moved-gap (heap_of c.args.arena.now) (heap_of c.copy.new.self) (heap_of c.copy-2.new.self)
    (heap_of c.free.new.self) c.args.cell c.args.fresh c.args.count c.args.index c.requires.index c.requires.room.enough c.requires.apart
    c.copy.ensures.written c.copy-2.ensures.written c.free.ensures.contents

pub returns-clause-keeps : goal.returns-clause-keeps
returns-clause-keeps c =
    let h = heap_of c.args.arena.now in
    let k = heap_of c.copy.new.self in
    let m = heap_of c.copy-2.new.self in
    let room = c.requires.room.enough in
    let all = leaf-long h c.args.cell c.args.count c.requires.leaf in
    let i = c.requires.index in
    let piece = take (8 * c.args.index) (drop 4 (held h c.args.cell)) in
    let long = length-part 4 (8 * c.args.index) (held h c.args.cell) (omega (arith, all, i)) in
    let still = spliced-long h k c.args.fresh 4 piece (omega (arith, long, room, i)) c.copy.ensures.written in
    let source = source-long h k c.args.cell c.args.fresh c.args.count c.args.index c.requires.apart c.copy.ensures.written c.requires.leaf in
    let one = kept-copied h k c.args.fresh 4 (8 * c.args.index) _ c.requires.room.exists (omega (arith, room, i)) c.copy.ensures.written in
    let two = kept-copied k m c.args.fresh (12 + 8 * c.args.index) (8 * (c.args.count - c.args.index)) _ (long-there k c.args.fresh (omega (arith, still, room)))
    (omega (arith, still, room, i)) c.copy-2.ensures.written in
    let apart : c.args.cell ≢ c.args.fresh = λ e. c.requires.apart (sym e) in
    let there = is-there m k c.args.cell (changed-others k m c.args.fresh _ c.copy-2.ensures.written c.args.cell apart) (long-there k c.args.cell (omega (arith, source))) in
    kept-then h k _ one (kept-then k m _ two (kept-freed m (heap_of c.free.new.self) c.args.cell there c.free.ensures.contents))
