use Rattle.std.proofs.Common.{subst, arith}
use Rattle.reg_arena.specs.Arena.{heap_of}
use Rattle.reg_index.specs.Internal.HashLeaves.{IsLeaf}
use Rattle.reg_index.specs.Subkeys.{numbered}
use Rattle.reg_index.proofs.ListPlaces.{first-place, list-stands, list-there, next-place, one-passed, count-of}
use Rattle.reg_index.proofs.ListsExchanged.{under-fits, under-root}
use Rattle.reg_index.proofs.finding.place_of.Goals as goal

pub loop-place-init : goal.loop-place-init
loop-place-init c = (λ lists h l. first-place lists c.args.index, omega arith)

pub overflow_cast-place : goal.overflow_cast-place
overflow_cast-place c =
    let s = c.requires in
    let there = list-there s.0 c.loop-place.place c.args.index s.2 (c.loop-place.invariant.0 s.0 s.1 s.2) in
    omega (arith, there, c.count_lists.ensures.count s.0 s.1 (omega (arith, there)), c.count_lists.ensures.fits)

pub entry_at-leaf-requires : goal.entry_at-leaf-requires
entry_at-leaf-requires c =
    let s = c.requires in
    let there = list-there s.0 c.loop-place.place c.args.index s.2 (c.loop-place.invariant.0 s.0 s.1 s.2) in
    under-fits (heap_of c.args.arena.now) c.args.offset c.loop-place.place.list c.count_lists.result s.0 s.1 there (c.count_lists.ensures.count s.0 s.1 (omega (arith, there)))
    c.if-count_lists-eq1.false c.content-root.result.now c.content-root.ensures

pub count_entries-count-requires : goal.count_entries-count-requires
count_entries-count-requires c =
    let s = c.requires in
    let there = list-there s.0 c.loop-place.place c.args.index s.2 (c.loop-place.invariant.0 s.0 s.1 s.2) in (
      _,
      subst (λ o. IsLeaf (heap_of c.args.arena.now) o (numbered c.loop-place.place.list s.0).list.entries)
          (under-root (heap_of c.args.arena.now) c.args.offset c.loop-place.place.list c.count_lists.result s.0 s.1 there
          (c.count_lists.ensures.count s.0 s.1 (omega (arith, there))) c.if-count_lists-eq1.false c.content-root.result.now c.content-root.ensures c.entry_at-leaf.result c.entry_at-leaf.ensures)
          (list-stands (heap_of c.args.arena.now) c.args.offset s.0 c.loop-place.place.list s.1 there).leaf,
    )

pub returns-then-place-count : goal.returns-then-place-count
returns-then-place-count c = λ lists h l.
    let e = c.loop-place.invariant.0 lists h l in
    let there = list-there lists c.loop-place.place c.args.index l e in
    let count = count-of (heap_of c.args.arena.now) c.args.offset lists c.loop-place.place.list c.entry_at-leaf.result.offset c.count_entries-count.result h there
    (under-root (heap_of c.args.arena.now) c.args.offset c.loop-place.place.list c.count_lists.result lists h there
    (c.count_lists.ensures.count lists h (omega (arith, there))) c.if-count_lists-eq1.false c.content-root.result.now
    c.content-root.ensures c.entry_at-leaf.result c.entry_at-leaf.ensures) c.count_entries-count.ensures in
    ((there, omega (arith, c.if-place-count.true, count)), e)

pub overflow_add-place : goal.overflow_add-place
overflow_add-place c =
    let s = c.requires in
    let e = c.loop-place.invariant.0 s.0 s.1 s.2 in
    let there = list-there s.0 c.loop-place.place c.args.index s.2 e in
    let count = count-of (heap_of c.args.arena.now) c.args.offset s.0 c.loop-place.place.list c.entry_at-leaf.result.offset c.count_entries-count.result s.1 there
    (under-root (heap_of c.args.arena.now) c.args.offset c.loop-place.place.list c.count_lists.result s.0 s.1 there
    (c.count_lists.ensures.count s.0 s.1 (omega (arith, there))) c.if-count_lists-eq1.false c.content-root.result.now
    c.content-root.ensures c.entry_at-leaf.result c.entry_at-leaf.ensures) c.count_entries-count.ensures in
    let one = one-passed (heap_of c.args.arena.now) c.args.offset s.0 c.loop-place.place c.args.index c.count_entries-count.result s.1 s.2 e count in
    omega (arith, one, c.loop-place.invariant.1, c.if-place-count.false)

pub loop-place-smaller : goal.loop-place-smaller
loop-place-smaller c =
    let s = c.requires in
    let e = c.loop-place.invariant.0 s.0 s.1 s.2 in
    let there = list-there s.0 c.loop-place.place c.args.index s.2 e in
    let count = count-of (heap_of c.args.arena.now) c.args.offset s.0 c.loop-place.place.list c.entry_at-leaf.result.offset c.count_entries-count.result s.1 there
    (under-root (heap_of c.args.arena.now) c.args.offset c.loop-place.place.list c.count_lists.result s.0 s.1 there
    (c.count_lists.ensures.count s.0 s.1 (omega (arith, there))) c.if-count_lists-eq1.false c.content-root.result.now
    c.content-root.ensures c.entry_at-leaf.result c.entry_at-leaf.ensures) c.count_entries-count.ensures in
    let one = one-passed (heap_of c.args.arena.now) c.args.offset s.0 c.loop-place.place c.args.index c.count_entries-count.result s.1 s.2 e count in
    omega (arith, one, c.if-place-count.false)

pub loop-place-preserved : goal.loop-place-preserved
loop-place-preserved c =
    let s = c.requires in
    let e = c.loop-place.invariant.0 s.0 s.1 s.2 in
    let there = list-there s.0 c.loop-place.place c.args.index s.2 e in
    let count = count-of (heap_of c.args.arena.now) c.args.offset s.0 c.loop-place.place.list c.entry_at-leaf.result.offset c.count_entries-count.result s.1 there
    (under-root (heap_of c.args.arena.now) c.args.offset c.loop-place.place.list c.count_lists.result s.0 s.1 there
    (c.count_lists.ensures.count s.0 s.1 (omega (arith, there))) c.if-count_lists-eq1.false c.content-root.result.now
    c.content-root.ensures c.entry_at-leaf.result c.entry_at-leaf.ensures) c.count_entries-count.ensures in
    let one = one-passed (heap_of c.args.arena.now) c.args.offset s.0 c.loop-place.place c.args.index c.count_entries-count.result s.1 s.2 e count in (
      λ lists h l.
          let e = c.loop-place.invariant.0 lists h l in
          let there = list-there lists c.loop-place.place c.args.index l e in
          next-place (heap_of c.args.arena.now) c.args.offset lists c.loop-place.place c.args.index c.count_entries-count.result h l e
          (count-of (heap_of c.args.arena.now) c.args.offset lists c.loop-place.place.list c.entry_at-leaf.result.offset c.count_entries-count.result h there
          (under-root (heap_of c.args.arena.now) c.args.offset c.loop-place.place.list c.count_lists.result lists h there
          (c.count_lists.ensures.count lists h (omega (arith, there))) c.if-count_lists-eq1.false c.content-root.result.now
          c.content-root.ensures c.entry_at-leaf.result c.entry_at-leaf.ensures) c.count_entries-count.ensures)
          (omega (arith, c.if-place-count.false)),
      omega (arith, one, c.loop-place.invariant.1, c.if-place-count.false),
    )
