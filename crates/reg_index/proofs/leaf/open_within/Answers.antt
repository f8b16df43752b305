use Rattle.std.proofs.Common.{◌+◌, ◌-◌, ◌*◌, arith}
use Rattle.reg_arena.specs.Arena.{heap_of}
use Rattle.reg_index.proofs.KeptCells.{kept-copied, long-there}
use Rattle.reg_index.proofs.LeafGaps.{shifted-gap}
use Rattle.reg_index.proofs.leaf.open_within.Goals as goal

pub returns-clause-gap : goal.returns-clause-gap
returns-clause-gap c =
    shifted-gap (heap_of c.args.arena.now) (heap_of c.shift.new.self) c.args.cell c.args.count c.args.index c.requires.index c.requires.room c.shift.ensures.written

pub returns-clause-keeps : goal.returns-clause-keeps
returns-clause-keeps c =
    let h = heap_of c.args.arena.now in
    let room = c.requires.room in
    let i = c.requires.index in
    kept-copied h (heap_of c.shift.new.self) c.args.cell (12 + 8 * c.args.index) (8 * (c.args.count - c.args.index)) _
    (long-there h c.args.cell (omega (arith, room))) (omega (arith, room, i)) c.shift.ensures.written
