use Rattle.std.proofs.Common.{arith}
use Rattle.reg_heap.specs.Kinds.{owned}
use Rattle.reg_arena.specs.Arena.{heap_of}
use Rattle.reg_values.proofs.ValueData.DataForms.{big-data}
use Rattle.reg_values.proofs.ValueFreeing.FreedRuns.{gone-as, one-owned}
use Rattle.reg_values.proofs.data.free_data.Goals as goal

pub free_big-requires-clause-big : goal.free_big-requires-clause-big
free_big-requires-clause-big c =
    let r = c.requires in
    record {
      result = r.result;
      met = r.met;
      reads = big-data (heap_of c.args.arena.now) c.args.fields r.result r.met r.reads c.if-fields-gt-SEGMENT_SIZE.true c.if-fields-ge-INLINE.false;
      once = r.once;
    }

pub returns-then-fields-gt-SEGMENT_SIZE-clause-gone : goal.returns-then-fields-gt-SEGMENT_SIZE-clause-gone
returns-then-fields-gt-SEGMENT_SIZE-clause-gone c = λ all met e.
    c.free_big.ensures.gone all met (big-data (heap_of c.args.arena.now) c.args.fields all met e c.if-fields-gt-SEGMENT_SIZE.true c.if-fields-ge-INLINE.false)

pub returns-clause-gone : goal.returns-clause-gone
returns-clause-gone c = λ all met e.
    let n = c.if-fields-eq0.false in
    gone-as (heap_of c.args.arena.now) (heap_of c.free.new.self) _ (λ z. owned z met) c.free.ensures.gone
    (λ z. one-owned (heap_of c.args.arena.now) c.args.fields all met e (omega (arith, n)) c.if-fields-gt-SEGMENT_SIZE.false z)
