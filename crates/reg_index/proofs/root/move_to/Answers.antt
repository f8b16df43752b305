use Rattle.std.proofs.Common.{◌+◌, ◌*◌, ◌≢◌, arith, sym, subst}
use Rattle.reg_arena.specs.Arena.{heap_of}
use Rattle.reg_index.specs.Internal.IndexLists.{HasRoomFor}
use Rattle.reg_index.proofs.KeptCells.{kept-copied, kept-freed, kept-then, is-there}
use Rattle.reg_index.proofs.LeafGaps.{changed-others}
use Rattle.reg_index.proofs.RootGaps.{root-fits, root-moved, root-there, moved-room, same-count}
use Rattle.reg_index.proofs.root.move_to.Goals as goal

pub copy-requires-clause-within : goal.copy-requires-clause-within
copy-requires-clause-within c = omega (arith, root-fits (heap_of c.args.arena.now) c.args.root c.args.lists c.requires.root)

pub returns-clause-root : goal.returns-clause-root
returns-clause-root c = λ offsets is.
    let room = subst (λ fresh. HasRoomFor (heap_of c.args.arena.now) c.args.root fresh (4 + 4 * (c.args.lists + 1))) c.in-Some.is c.requires.room in
    root-moved (heap_of c.args.arena.now) (heap_of c.copy.new.self) (heap_of c.free.new.self) c.args.root c.in-Some.cell c.args.lists (omega (arith, room.0.enough)) room.1
    c.copy.ensures.written c.free.ensures.contents offsets (same-count (heap_of c.args.arena.now) c.args.root c.args.lists c.requires.root offsets is) is

pub returns-clause-room : goal.returns-clause-room
returns-clause-room c =
    let room = subst (λ fresh. HasRoomFor (heap_of c.args.arena.now) c.args.root fresh (4 + 4 * (c.args.lists + 1))) c.in-Some.is c.requires.room in
    let all = root-fits (heap_of c.args.arena.now) c.args.root c.args.lists c.requires.root in
    moved-room (heap_of c.args.arena.now) (heap_of c.copy.new.self) (heap_of c.free.new.self) c.args.root c.in-Some.cell c.args.lists (4 + 4 * (c.args.lists + 1)) all
    (omega (arith, room.0.enough)) room.0.enough room.1 c.copy.ensures.written c.free.ensures.contents

pub returns-clause-keeps : goal.returns-clause-keeps
returns-clause-keeps c =
    let h = heap_of c.args.arena.now in
    let k = heap_of c.copy.new.self in
    let room = subst (λ fresh. HasRoomFor h c.args.root fresh (4 + 4 * (c.args.lists + 1))) c.in-Some.is c.requires.room in
    let apart : c.args.root ≢ c.in-Some.cell = λ e. room.1 (sym e) in
    let there = is-there k h c.args.root (changed-others h k c.in-Some.cell _ c.copy.ensures.written c.args.root apart) (root-there h c.args.root c.requires.root) in
    kept-then h k _ (kept-copied h k c.in-Some.cell 0 (4 + 4 * c.args.lists) _ room.0.exists (omega (arith, room.0.enough)) c.copy.ensures.written)
    (kept-freed k (heap_of c.free.new.self) c.args.root there c.free.ensures.contents)
