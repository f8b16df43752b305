use Rattle.std.proofs.Common.{ap, length, arith, refl, ◌∙◌}
use Rattle.reg_arena.specs.Arena.{heap_of}
use Rattle.reg_values.proofs.ValueData.FilledCells.{fills-there, fills-room, pieces-none, pieces-more, pieces-all}
use Rattle.reg_values.proofs.big.put_pieces.Goals as goal

pub loop-index-init : goal.loop-index-init
loop-index-init c = record {
  filled = pieces-none (heap_of c.args.arena.now) c.args.segments.now c.args.bytes.now;
  long = refl;
}

pub write-requires-clause-exists : goal.write-requires-clause-exists
write-requires-clause-exists c =
    let r = c.requires.room c.loop-index.index c.loop-index-test.true in
    fills-there (heap_of c.args.arena.now) (heap_of c.loop-index.arena) c.args.segments.now _ c.loop-index.invariant.filled.fills r.exists

pub write-requires-clause-fits : goal.write-requires-clause-fits
write-requires-clause-fits c =
    let r = fills-room (heap_of c.args.arena.now) (heap_of c.loop-index.arena) c.args.segments.now _ _ c.loop-index.invariant.filled.fills
    (c.requires.room c.loop-index.index c.loop-index-test.true) in
    let e = r.enough in
    let n = ap length c.piece.ensures in
    omega (arith, e, n)

pub loop-index-preserved : goal.loop-index-preserved
loop-index-preserved c = record {
  filled = let r = fills-room (heap_of c.args.arena.now) (heap_of c.loop-index.arena) c.args.segments.now _ _ c.loop-index.invariant.filled.fills
      (c.requires.room c.loop-index.index c.loop-index-test.true) in
      let e = r.enough in
      let n = ap length c.piece.ensures in
      pieces-more (heap_of c.args.arena.now) (heap_of c.loop-index.arena)
      (heap_of c.write.new.self) c.args.segments.now c.args.bytes.now c.loop-index.index c.piece.result.now c.requires.once
      c.loop-index-test.true c.piece.ensures
      (omega (arith, e, n)) c.write.ensures.written c.write.ensures.writes c.loop-index.invariant.filled;
  long = c.write.ensures.long ∙ c.loop-index.invariant.long;
}

pub returns-clause-reads : goal.returns-clause-reads
returns-clause-reads c = pieces-all (heap_of c.args.arena.now) (heap_of c.loop-index.arena) c.args.segments.now c.args.bytes.now
    c.loop-index.index c.loop-index-test.false c.requires.all c.loop-index.invariant.filled
