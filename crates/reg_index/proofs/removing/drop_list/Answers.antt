use Rattle.std.proofs.Common.{◌-◌, ◌≡◌, ◌≤◌, length, sym, ◌∙◌, arith}
use Rattle.std.proofs.lemmas.List.{length-map}
use Rattle.reg_arena.specs.Arena.{heap_of}
use Rattle.reg_index.specs.Internal.IndexLists.{offsets_of}
use Rattle.reg_index.proofs.ListDropped.{one-left, more-left, leaf-found, root-left, root-left-long}
use Rattle.reg_index.proofs.removing.drop_list.Goals as goal

pub returns-then-lists-eq2-clause-lists : goal.returns-then-lists-eq2-clause-lists
returns-then-lists-eq2-clause-lists c = λ lists h there once.
    let count = c.count_lists-lists.ensures.count lists h (omega (arith, there)) in
    let two : length lists ≡ 2 = sym count ∙ c.if-lists-eq2.true in
    one-left (heap_of c.args.arena.now) (heap_of c.free-then-lists-eq2.new.self) (heap_of c.free-then-lists-eq2-2.new.self) c.args.offset c.args.number c.leaf_at-leaf.result lists h
    there once (c.leaf_at-leaf.ensures lists h there) c.free-then-lists-eq2.ensures.gone c.leaf_at-other.result two c.free-then-lists-eq2-2.ensures.gone
    (c.leaf_at-other.ensures lists h (omega (arith, two)))

pub free-requires-2 : goal.free-requires-2
free-requires-2 c = let s = c.requires in leaf-found (heap_of c.args.arena.now) c.args.offset c.args.number c.leaf_at-leaf.result s.0 s.1 s.2 (c.leaf_at-leaf.ensures s.0 s.1 s.2)

pub take_out-requires-clause-root : goal.take_out-requires-clause-root
take_out-requires-clause-root c =
    let s = c.requires in
    let count = c.count_lists-lists.ensures.count s.0 s.1 (omega (arith, s.2)) in
    let three : 3 ≤ length s.0 = omega (arith, count, s.2, c.if-lists-eq1.false, c.if-lists-eq2.false) in
    root-left-long (heap_of c.args.arena.now) (heap_of c.free-2.new.self) (heap_of c.free-2.new.self) c.args.offset c.args.number c.leaf_at-leaf.result s.0 s.1
    s.2 s.3 (c.leaf_at-leaf.ensures s.0 s.1 s.2) c.free-2.ensures.gone (c.count_lists-lists.result - 1) (omega (arith, three)) (omega (arith, count, three))

pub returns-clause-lists : goal.returns-clause-lists
returns-clause-lists c = λ lists h there once.
    let count = c.count_lists-lists.ensures.count lists h (omega (arith, there)) in
    let three : 3 ≤ length lists = omega (arith, count, there, c.if-lists-eq1.false, c.if-lists-eq2.false) in
    let is = c.leaf_at-leaf.ensures lists h there in
    let root = root-left (heap_of c.args.arena.now) (heap_of c.free-2.new.self) (heap_of c.free-2.new.self) c.args.offset c.args.number c.leaf_at-leaf.result lists h there once is
    c.free-2.ensures.gone (omega (arith, three)) in
    more-left (heap_of c.args.arena.now) (heap_of c.free-2.new.self) (heap_of c.take_out.new.arena) c.args.offset c.args.number c.leaf_at-leaf.result lists h there once is
    c.free-2.ensures.gone three c.take_out.ensures.writes
    (c.take_out.ensures.root (offsets_of lists) root (omega (arith, length-map lists (λ list. list.offset), count, three)))
