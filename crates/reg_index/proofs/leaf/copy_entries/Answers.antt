use Rattle.std.proofs.Common.{◌+◌, ◌*◌, arith, take, drop}
use Rattle.reg_arena.specs.Arena.{heap_of}
use Rattle.reg_records.specs.RecordCells.{held}
use Rattle.reg_index.proofs.LeafEntries.{length-part}
use Rattle.reg_index.proofs.LeafGaps.{part-fits, copied-part, spliced-room}
use Rattle.reg_index.proofs.KeptCells.{kept-copied, kept-then, kept-written}
use Rattle.reg_index.proofs.leaf.copy_entries.Goals as goal

pub copy-requires-clause-within : goal.copy-requires-clause-within
copy-requires-clause-within c = part-fits (heap_of c.args.arena.now) c.args.cell c.args.from c.args.count c.requires.leaf

pub put_leaf_head-requires-clause-room : goal.put_leaf_head-requires-clause-room
put_leaf_head-requires-clause-room c =
    let h = heap_of c.args.arena.now in
    let all = part-fits h c.args.cell c.args.from c.args.count c.requires.leaf in
    let room = c.requires.room.enough in
    let piece = take (8 * c.args.count) (drop (4 + 8 * c.args.from) (held h c.args.cell)) in
    let long = length-part (4 + 8 * c.args.from) (8 * c.args.count) (held h c.args.cell) all in
    spliced-room h (heap_of c.copy.new.self) c.args.other 4 4 piece (omega (arith, long, room)) (omega (arith, room)) c.copy.ensures.written

pub returns-clause-leaf : goal.returns-clause-leaf
returns-clause-leaf c =
    copied-part (heap_of c.args.arena.now) (heap_of c.copy.new.self) (heap_of c.put_leaf_head.new.arena) c.args.cell c.args.other c.args.from c.args.count
    c.requires.few c.requires.room.enough c.copy.ensures.written c.put_leaf_head.ensures.here

pub returns-clause-keeps : goal.returns-clause-keeps
returns-clause-keeps c =
    let h = heap_of c.args.arena.now in
    let k = heap_of c.copy.new.self in
    let all = part-fits h c.args.cell c.args.from c.args.count c.requires.leaf in
    let room = c.requires.room.enough in
    let piece = take (8 * c.args.count) (drop (4 + 8 * c.args.from) (held h c.args.cell)) in
    let long = length-part (4 + 8 * c.args.from) (8 * c.args.count) (held h c.args.cell) all in
    let there = spliced-room h k c.args.other 4 4 piece (omega (arith, long, room)) (omega (arith, room)) c.copy.ensures.written in
    kept-then h k (heap_of c.put_leaf_head.new.arena)
    (kept-copied h k c.args.other 4 (8 * c.args.count) _ c.requires.room.exists (omega (arith, room)) c.copy.ensures.written)
    (kept-written _ _ c.args.other _ there.exists c.put_leaf_head.ensures)
