use Rattle.std.proofs.Common.{◌+◌, ◌-◌, ◌*◌, arith, take, drop}
use Rattle.reg_arena.specs.Arena.{heap_of}
use Rattle.reg_records.specs.RecordCells.{held}
use Rattle.reg_index.proofs.KeptCells.{kept-copied, kept-then, kept-written}
use Rattle.reg_index.proofs.LeafEntries.{length-part}
use Rattle.reg_index.proofs.LeafGaps.{spliced-room}
use Rattle.reg_index.proofs.RootGaps.{root-fits, root-there, taken-out}
use Rattle.reg_index.proofs.root.take_out.Goals as goal

pub shift-requires-clause-source : goal.shift-requires-clause-source
shift-requires-clause-source c = omega (arith, root-fits (heap_of c.args.arena.now) c.args.root (c.args.left + 1) c.requires.root, c.requires.number)

pub shift-requires-clause-fits : goal.shift-requires-clause-fits
shift-requires-clause-fits c = omega (arith, root-fits (heap_of c.args.arena.now) c.args.root (c.args.left + 1) c.requires.root, c.requires.number)

pub put_root_head-requires-clause-room : goal.put_root_head-requires-clause-room
put_root_head-requires-clause-room c =
    let h = heap_of c.args.arena.now in
    let all = root-fits h c.args.root (c.args.left + 1) c.requires.root in
    let i = c.requires.number in
    let piece = take (4 * (c.args.left - c.args.number)) (drop (8 + 4 * c.args.number) (held h c.args.root)) in
    let long = length-part (8 + 4 * c.args.number) (4 * (c.args.left - c.args.number)) (held h c.args.root) (omega (arith, all, i)) in
    spliced-room h (heap_of c.shift.new.self) c.args.root (4 + 4 * c.args.number) 4 piece (omega (arith, long, all, i)) (omega (arith, all)) c.shift.ensures.written

pub returns-clause-root : goal.returns-clause-root
returns-clause-root c =
    taken-out (heap_of c.args.arena.now) (heap_of c.shift.new.self) (heap_of c.put_root_head.new.arena) c.args.root c.args.left c.args.number c.requires.few
    c.requires.number c.shift.ensures.written c.put_root_head.ensures.here

pub returns-clause-keeps : goal.returns-clause-keeps
returns-clause-keeps c =
    let h = heap_of c.args.arena.now in
    let k = heap_of c.shift.new.self in
    let all = root-fits h c.args.root (c.args.left + 1) c.requires.root in
    let i = c.requires.number in
    let piece = take (4 * (c.args.left - c.args.number)) (drop (8 + 4 * c.args.number) (held h c.args.root)) in
    let long = length-part (8 + 4 * c.args.number) (4 * (c.args.left - c.args.number)) (held h c.args.root) (omega (arith, all, i)) in
    let there = spliced-room h k c.args.root (4 + 4 * c.args.number) 4 piece (omega (arith, long, all, i)) (omega (arith, all)) c.shift.ensures.written in
    kept-then h k (heap_of c.put_root_head.new.arena)
    (kept-copied h k c.args.root (4 + 4 * c.args.number) (4 * (c.args.left - c.args.number)) _ (root-there h c.args.root c.requires.root) (omega (arith, all, i)) c.shift.ensures.written)
    (kept-written _ _ c.args.root _ there.exists c.put_root_head.ensures)
