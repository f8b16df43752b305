use Rattle.std.proofs.Common.{length, arith, refl}
use Rattle.reg_arena.specs.Arena.{heap_of}
use Rattle.reg_values.proofs.ValueData.FilledCells.{fills-cell}
use Rattle.reg_values.proofs.ValueData.StoredData.{big-holds, few-segments, all-segments}
use Rattle.reg_values.proofs.big.put_big.Goals as goal

pub overflow_cast-fields : goal.overflow_cast-fields
overflow_cast-fields c = let f = few-segments (length c.args.bytes.now) c.requires.size.1 in let n = c.requires.count in omega (arith, f, n)

pub put_pieces-requires-clause-all : goal.put_pieces-requires-clause-all
put_pieces-requires-clause-all c = (all-segments (length c.args.bytes.now) (length c.args.segments.now) c.requires.count).0

pub put_pieces-requires-clause-none_over : goal.put_pieces-requires-clause-none_over
put_pieces-requires-clause-none_over c = (all-segments (length c.args.bytes.now) (length c.args.segments.now) c.requires.count).1

pub returns-clause-holds : goal.returns-clause-holds
returns-clause-holds c =
    let r = c.requires in
    let m = c.put_pieces.ensures.reads in
    big-holds (heap_of c.args.arena.now) (heap_of c.put_db.new.arena) (heap_of c.put_row.new.arena)
    (heap_of c.put_pieces.new.arena) c.args.head c.args.list c.args.segments.now c.args.bytes.now r.size.1 r.size.0 r.count r.once r.head r.list
    r.room
    (fills-cell _ _ c.args.head _ c.put_db.ensures.written) c.put_row.ensures.fills c.put_pieces.ensures.fills (length c.args.segments.now) refl c.put_db.ensures.reads c.put_row.ensures.row m.0 m.1
