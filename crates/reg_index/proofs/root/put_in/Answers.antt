use Rattle.std.proofs.Common.{◌∷◌, ◌++◌, ◌+◌, ◌-◌, ◌*◌, take, drop, subst, arith}
use Rattle.reg_arena.specs.Arena.{heap_of}
use Rattle.reg_records.specs.RecordCells.{held}
use Rattle.reg_records.specs.SubkeyLists.{Entry}
use Rattle.reg_index.specs.Internal.IndexLists.{IsRoot}
use Rattle.reg_index.proofs.KeptCells.{kept-copied, kept-then, kept-written, here-there}
use Rattle.reg_index.proofs.LeafEntries.{length-part}
use Rattle.reg_index.proofs.LeafGaps.{spliced-room}
use Rattle.reg_index.proofs.RootGaps.{inserted, written-room, root-there}
use Rattle.reg_index.proofs.root.put_in.Goals as goal

pub put_entry-requires : goal.put_entry-requires
put_entry-requires c =
    let h = heap_of c.args.arena.now in
    let room = c.requires.room in
    let i = c.requires.number in
    let piece = take (4 * (c.args.lists - c.args.number)) (drop (4 + 4 * c.args.number) (held h c.args.root)) in
    let long = length-part (4 + 4 * c.args.number) (4 * (c.args.lists - c.args.number)) (held h c.args.root) (omega (arith, room, i)) in
    spliced-room h (heap_of c.shift.new.self) c.args.root (8 + 4 * c.args.number) (4 + 4 * (c.args.number + 1)) piece (omega (arith, long, room, i)) (omega (arith, room, i))
    c.shift.ensures.written

pub put_root_head-requires-clause-room : goal.put_root_head-requires-clause-room
put_root_head-requires-clause-room c =
    let h = heap_of c.args.arena.now in
    let room = c.requires.room in
    let i = c.requires.number in
    let piece = take (4 * (c.args.lists - c.args.number)) (drop (4 + 4 * c.args.number) (held h c.args.root)) in
    let long = length-part (4 + 4 * c.args.number) (4 * (c.args.lists - c.args.number)) (held h c.args.root) (omega (arith, room, i)) in
    let first = spliced-room h (heap_of c.shift.new.self) c.args.root (8 + 4 * c.args.number) 4 piece (omega (arith, long, room, i)) (omega (arith, room, i))
    c.shift.ensures.written in
    written-room c.shift.new.self c.put_entry.new.arena c.args.root 4 _ first c.put_entry.ensures.written

pub returns-clause-root : goal.returns-clause-root
returns-clause-root c = λ offsets is number.
    subst (λ (e : Entry). IsRoot (heap_of c.put_root_head.new.arena) c.args.root (take c.args.number offsets ++ e.offset ∷ drop c.args.number offsets)) c.plain.ensures
    (inserted (heap_of c.args.arena.now) (heap_of c.shift.new.self) (heap_of c.put_entry.new.arena) (heap_of c.put_root_head.new.arena) c.args.root c.args.lists c.args.number
    c.plain.result.offset c.put_entry.ensures.offset c.requires.number c.requires.few c.requires.room c.shift.ensures.written c.put_entry.ensures.written.here
    c.put_root_head.ensures.here offsets is number)

pub returns-clause-keeps : goal.returns-clause-keeps
returns-clause-keeps c =
    let h = heap_of c.args.arena.now in
    let room = c.requires.room in
    let i = c.requires.number in
    let piece = take (4 * (c.args.lists - c.args.number)) (drop (4 + 4 * c.args.number) (held h c.args.root)) in
    let long = length-part (4 + 4 * c.args.number) (4 * (c.args.lists - c.args.number)) (held h c.args.root) (omega (arith, room, i)) in
    let first = spliced-room h (heap_of c.shift.new.self) c.args.root (8 + 4 * c.args.number) 4 piece (omega (arith, long, room, i)) (omega (arith, room, i))
    c.shift.ensures.written in
    let w = c.put_entry.ensures.written in
    kept-then h (heap_of c.shift.new.self) (heap_of c.put_root_head.new.arena)
    (kept-copied h (heap_of c.shift.new.self) c.args.root (8 + 4 * c.args.number) (4 * (c.args.lists - c.args.number)) _
    (root-there h c.args.root c.requires.root) (omega (arith, room, i)) c.shift.ensures.written)
    (kept-then (heap_of c.shift.new.self) (heap_of c.put_entry.new.arena) (heap_of c.put_root_head.new.arena)
    (kept-written _ _ c.args.root _ first.exists w)
    (kept-written _ _ c.args.root _ (here-there (heap_of c.put_entry.new.arena) c.args.root _ w.here) c.put_root_head.ensures))
