use Rattle.std.proofs.Common.{◌≡◌, ℕ, ◌<◌, ◌∙◌, Some, List, length, ap, subst, IsSome, arith}
use Rattle.reg_shape.specs.Nodes.{KeyList}
use Rattle.reg_index.specs.Subkeys.{numbered}
use Rattle.reg_index.proofs.ListPlaces.{list-stands}
use Rattle.std.proofs.lemmas.List.{length-map}
use Rattle.reg_arena.specs.Arena.{heap_of}
use Rattle.reg_index.specs.Internal.IndexLists.{HasLists, offsets_of}
use Rattle.reg_index.proofs.ListsRead.{list-there, lists-head, root-count, root-lists, root-room, numbered-root}
use Rattle.reg_index.proofs.finding.leaf_under.Goals.{After-entry_at}
use Rattle.reg_index.proofs.finding.leaf_under.Goals as goal

pub head_in-requires : goal.head_in-requires
head_in-requires c =
    let s = c.requires in
    let l = lists-head (heap_of c.args.arena.now) s.0 s.1 s.2 (omega (arith, s.4)) in
    (heap_of c.args.arena.now, s.0, l.0, s.3, l.1)

pub overflow_cast-number : goal.overflow_cast-number
overflow_cast-number c =
    let s = c.requires in
    let count =
    root-count (heap_of c.args.arena.now) s.0 s.1 c.head_in.result.form c.head_in.result.count c.in-IndexRoot.is
    (c.head_in.ensures.form (heap_of c.args.arena.now) s.0 s.3) (c.head_in.ensures.count (heap_of c.args.arena.now) s.0 s.3) s.2 (omega (arith, s.4)) in
    omega (arith, count, s.4, c.head_in.ensures.fits)

pub entry_at-requires : goal.entry_at-requires
entry_at-requires c =
    let s = c.requires in
    let root = root-lists (heap_of c.args.arena.now) s.0 s.1 c.head_in.result.form c.in-IndexRoot.is
    (c.head_in.ensures.form (heap_of c.args.arena.now) s.0 s.3) s.2 (omega (arith, s.4)) in
    root-room (heap_of c.args.arena.now) s.0 (offsets_of s.1) c.args.number c.args.root.now root (omega (arith, s.4, length-map s.1 (λ list. list.offset))) s.3

-- the list of the number is the one that was read
there : (c : goal.After-entry_at) → (offset : ℕ) → (lists : List KeyList) → HasLists (heap_of c.args.arena.now) offset lists
    → heap_of c.args.arena.now offset ≡ Some c.args.root.now → c.args.number < length lists → (numbered c.args.number lists).offset ≡ c.entry_at.result.offset
there c offset lists h here l =
    let root = root-lists (heap_of c.args.arena.now) offset lists c.head_in.result.form c.in-IndexRoot.is
    (c.head_in.ensures.form (heap_of c.args.arena.now) offset here) h (omega (arith, l)) in
    numbered-root (heap_of c.args.arena.now) offset c.args.number lists c.args.root.now c.entry_at.result root l here c.entry_at.ensures

pub content-requires : goal.content-requires
content-requires c =
    let s = c.requires in
    let stands = list-stands (heap_of c.args.arena.now) s.0 s.1 c.args.number s.2 s.4 in
    subst (λ offset. IsSome (heap_of c.args.arena.now offset)) (there c s.0 s.1 s.2 s.3 s.4) (list-there (heap_of c.args.arena.now) _ _ stands.leaf)

pub returns-in-IndexRoot : goal.returns-in-IndexRoot
returns-in-IndexRoot c = λ offset lists h here l.
    ap (heap_of c.args.arena.now) (there (goal.at.returns-in-IndexRoot c).After-entry_at offset lists h here l) ∙ c.content.ensures
