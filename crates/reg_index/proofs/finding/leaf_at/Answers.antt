use Rattle.std.proofs.Common.{arith}
use Rattle.std.proofs.lemmas.List.{length-map}
use Rattle.reg_arena.specs.Arena.{heap_of}
use Rattle.reg_index.specs.Internal.IndexLists.{offsets_of}
use Rattle.reg_index.proofs.ListsRead.{list-there, lists-head, root-count, root-lists, root-room, numbered-root}
use Rattle.reg_index.proofs.finding.leaf_at.Goals as goal

pub content-content-requires : goal.content-content-requires
content-content-requires c =
    let l = lists-head (heap_of c.args.arena.now) c.args.offset c.requires.0 c.requires.1 (omega (arith, c.requires.2)) in
    list-there (heap_of c.args.arena.now) c.args.offset l.0 l.1

pub head_in-requires : goal.head_in-requires
head_in-requires c =
    let l = lists-head (heap_of c.args.arena.now) c.args.offset c.requires.0 c.requires.1 (omega (arith, c.requires.2)) in
    (heap_of c.args.arena.now, c.args.offset, l.0, c.content-content.ensures, l.1)

pub overflow_cast-number : goal.overflow_cast-number
overflow_cast-number c =
    let form = c.head_in.ensures.form (heap_of c.args.arena.now) c.args.offset c.content-content.ensures in
    let number = c.head_in.ensures.count (heap_of c.args.arena.now) c.args.offset c.content-content.ensures in
    let count =
    root-count (heap_of c.args.arena.now) c.args.offset c.requires.0 c.head_in.result.form c.head_in.result.count c.in-IndexRoot.is
    form number c.requires.1 (omega (arith, c.requires.2)) in
    omega (arith, count, c.requires.2, c.head_in.ensures.fits)

pub entry_at-requires : goal.entry_at-requires
entry_at-requires c =
    let form = c.head_in.ensures.form (heap_of c.args.arena.now) c.args.offset c.content-content.ensures in
    let root = root-lists (heap_of c.args.arena.now) c.args.offset c.requires.0 c.head_in.result.form c.in-IndexRoot.is form c.requires.1 (omega (arith, c.requires.2)) in
    root-room (heap_of c.args.arena.now) c.args.offset (offsets_of c.requires.0) c.args.number c.content-content.result.now root
    (omega (arith, c.requires.2, length-map c.requires.0 (λ list. list.offset))) c.content-content.ensures

pub returns-in-IndexRoot : goal.returns-in-IndexRoot
returns-in-IndexRoot c = λ lists h l.
    let form = c.head_in.ensures.form (heap_of c.args.arena.now) c.args.offset c.content-content.ensures in
    let root = root-lists (heap_of c.args.arena.now) c.args.offset lists c.head_in.result.form c.in-IndexRoot.is form h (omega (arith, l)) in
    numbered-root (heap_of c.args.arena.now) c.args.offset c.args.number lists c.content-content.result.now c.entry_at.result root l c.content-content.ensures c.entry_at.ensures
