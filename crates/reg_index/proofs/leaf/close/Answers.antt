use Rattle.std.proofs.Common.{◌+◌, ◌-◌, ◌*◌, arith, take, drop}
use Rattle.reg_arena.specs.Arena.{heap_of}
use Rattle.reg_records.specs.RecordCells.{held}
use Rattle.reg_index.proofs.KeptCells.{kept-copied, kept-then, kept-written, long-there}
use Rattle.reg_index.proofs.LeafEntries.{length-part}
use Rattle.reg_index.proofs.LeafGaps.{leaf-long, spliced-room, closed}
use Rattle.reg_index.proofs.leaf.close.Goals as goal

pub shift-requires-clause-source : goal.shift-requires-clause-source
shift-requires-clause-source c = omega (arith, leaf-long (heap_of c.args.arena.now) c.args.cell (c.args.left + 1) c.requires.leaf, c.requires.index)

pub shift-requires-clause-fits : goal.shift-requires-clause-fits
shift-requires-clause-fits c = omega (arith, leaf-long (heap_of c.args.arena.now) c.args.cell (c.args.left + 1) c.requires.leaf, c.requires.index)

pub put_leaf_head-requires-clause-room : goal.put_leaf_head-requires-clause-room
put_leaf_head-requires-clause-room c =
    let h = heap_of c.args.arena.now in
    let all = leaf-long h c.args.cell (c.args.left + 1) c.requires.leaf in
    let i = c.requires.index in
    let piece = take (8 * (c.args.left - c.args.index)) (drop (12 + 8 * c.args.index) (held h c.args.cell)) in
    let long = length-part (12 + 8 * c.args.index) (8 * (c.args.left - c.args.index)) (held h c.args.cell) (omega (arith, all, i)) in
    spliced-room h (heap_of c.shift.new.self) c.args.cell (4 + 8 * c.args.index) 4 piece (omega (arith, long, all, i)) (omega (arith, all)) c.shift.ensures.written

pub returns-clause-leaf : goal.returns-clause-leaf
returns-clause-leaf c =
    closed (heap_of c.args.arena.now) (heap_of c.shift.new.self)
    (heap_of c.put_leaf_head.new.arena) c.args.cell c.args.left c.args.index c.requires.few c.requires.index c.shift.ensures.written
    c.put_leaf_head.ensures.here

pub returns-clause-keeps : goal.returns-clause-keeps
returns-clause-keeps c =
    let h = heap_of c.args.arena.now in
    let k = heap_of c.shift.new.self in
    let all = leaf-long h c.args.cell (c.args.left + 1) c.requires.leaf in
    let i = c.requires.index in
    let piece = take (8 * (c.args.left - c.args.index)) (drop (12 + 8 * c.args.index) (held h c.args.cell)) in
    let long = length-part (12 + 8 * c.args.index) (8 * (c.args.left - c.args.index)) (held h c.args.cell) (omega (arith, all, i)) in
    let there = spliced-room h k c.args.cell (4 + 8 * c.args.index) 4 piece (omega (arith, long, all, i)) (omega (arith, all)) c.shift.ensures.written in
    kept-then h k (heap_of c.put_leaf_head.new.arena)
    (kept-copied h k c.args.cell (4 + 8 * c.args.index) (8 * (c.args.left - c.args.index)) _ (long-there h c.args.cell (omega (arith, all))) (omega (arith, all, i)) c.shift.ensures.written)
    (kept-written _ _ c.args.cell _ there.exists c.put_leaf_head.ensures)
