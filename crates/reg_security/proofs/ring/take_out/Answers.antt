use Rattle.std.proofs.Common.{◌≡◌, lit≤, ℕ, ◌==◌, cond, IsSome, None, [], ◌∷◌, subst, sym}
use Rattle.reg_heap.specs.Heaps.{GivesUp}
use Rattle.reg_arena.specs.Arena.{Bins, heap_of}
use Rattle.reg_security.proofs.RingTurned.{turned, written-at}
use Rattle.reg_security.proofs.RingLeft.{security-there, cell-there, blink-written, flink-written, left-there, removed-others, removed-alone}
use Rattle.reg_security.proofs.CellsRelinked.{relinked-then, relinked-written, relinked-freed}
use Rattle.reg_security.proofs.ring.take_out.Goals as goal
use Rattle.reg_security.proofs.ring.take_out.Goals.{then-fields-cell, else-fields-cell}

pub read-requires : goal.read-requires
read-requires c =
    let r = c.requires.ring in
    security-there (heap_of c.args.arena.now) c.args.cell (written-at (heap_of c.args.arena.now) r.0 r.1 c.args.cell r.2)

pub set_flink-requires : goal.set_flink-requires
set_flink-requires c =
    let r = c.requires.ring in
    let h = heap_of c.args.arena.now in
    let t = turned h r.0 c.args.cell r.1 r.2 in
    security-there h c.read.result.fields.blink (blink-written h c.args.cell _ c.read.ensures t.rest t.closed)

pub set_blink-requires : goal.set_blink-requires
set_blink-requires c =
    let r = c.requires.ring in
    let h = heap_of c.args.arena.now in
    let k = heap_of c.set_flink.new.arena in
    let t = turned h r.0 c.args.cell r.1 r.2 in
    let e = c.set_flink.ensures in
    security-there k c.read.result.fields.flink (flink-written h c.args.cell _ c.read.ensures t.rest t.closed k e.reads e.plain e.written.others)

pub free-requires : goal.free-requires
free-requires c =
    let r = c.requires.ring in
    let h = heap_of c.args.arena.now in
    let t = turned h r.0 c.args.cell r.1 r.2 in
    elim c.if-fields-cell.branch [
      | then-fields-cell w ↦ (
          let e = w.set_flink.ensures in
          let d = w.set_blink.ensures in
          subst (λ (a : Bins). IsSome (heap_of a c.args.cell)) (sym w.arena-is)
          (left-there h c.args.cell _ c.read.ensures t.rest t.closed (heap_of w.set_flink.new.arena) e.reads e.plain e.written.others
          (heap_of w.set_blink.new.arena) d.reads d.plain d.written.others))
      | else-fields-cell w ↦ subst (λ (a : Bins). IsSome (heap_of a c.args.cell)) (sym w.arena-is) (cell-there h c.args.cell (written-at h r.0 r.1 c.args.cell r.2))
    ]

pub returns-clause-removed : goal.returns-clause-removed
returns-clause-removed c = λ ring r l.
    let h = heap_of c.args.arena.now in
    let n = heap_of c.free.new.self in
    let t = turned h ring c.args.cell r l in
    elim c.if-fields-cell.branch [
      | then-fields-cell w ↦ (
          let e = w.set_flink.ensures in
          let d = w.set_blink.ensures in
          let contents = subst (λ (a : Bins). (z : ℕ) → n z ≡ cond (z == c.args.cell) None (heap_of a z)) w.arena-is c.free.ensures.contents in
          let gone = subst (λ (a : Bins). GivesUp (heap_of a) n (c.args.cell ∷ [])) w.arena-is c.free.ensures.gone in
          removed-others h c.args.cell _ c.read.ensures t.rest t.closed (heap_of w.set_flink.new.arena) e.reads e.plain e.written.others
          (heap_of w.set_blink.new.arena) d.reads d.plain d.written.others n contents e.written.writes d.written.writes gone ring t.members w.if-fields-cell.true)
      | else-fields-cell w ↦
          removed-alone h n c.args.cell _ c.read.ensures t.rest t.closed w.if-fields-cell.false
          (subst (λ (a : Bins). GivesUp (heap_of a) n (c.args.cell ∷ [])) w.arena-is c.free.ensures.gone) ring t.members
    ]

pub returns-clause-beside : goal.returns-clause-beside
returns-clause-beside c = λ offset apart.
    let h = heap_of c.args.arena.now in
    let n = heap_of c.free.new.self in
    let r = c.requires.ring in
    let t = turned h r.0 c.args.cell r.1 r.2 in
    elim c.if-fields-cell.branch [
      | then-fields-cell w ↦ (
          let e = w.set_flink.ensures in
          let d = w.set_blink.ensures in
          let contents = subst (λ (a : Bins). (z : ℕ) → n z ≡ cond (z == c.args.cell) None (heap_of a z)) w.arena-is c.free.ensures.contents in
          let blink = security-there h c.read.result.fields.blink (blink-written h c.args.cell _ c.read.ensures t.rest t.closed) in
          let flink = security-there (heap_of w.set_flink.new.arena) c.read.result.fields.flink
          (flink-written h c.args.cell _ c.read.ensures t.rest t.closed (heap_of w.set_flink.new.arena) e.reads e.plain e.written.others) in
          relinked-then _ _ _ offset
          (relinked-then _ _ _ offset (relinked-written _ _ _ 4 _ blink (lit≤ tt) e.written offset) (relinked-written _ _ _ 8 _ flink (lit≤ tt) d.written offset))
          (relinked-freed _ _ c.args.cell offset (contents offset) apart))
      | else-fields-cell w ↦
          let contents = subst (λ (a : Bins). (z : ℕ) → n z ≡ cond (z == c.args.cell) None (heap_of a z)) w.arena-is c.free.ensures.contents in
          relinked-freed h n c.args.cell offset (contents offset) apart
    ]
