use Rattle.std.proofs.Common.{◌≡◌, arith, refl, sym}
use Rattle.reg_dotreg_reader.specs.EntryLines.{lines_of}
use Rattle.reg_dotreg_reader.proofs.LinePlaces.{rows_done, rows_alone, rows_end, rows_more}
use Rattle.reg_dotreg_reader.proofs.places.lines_to.Goals as goal

pub returns-in_default-clause-count : goal.returns-in_default-clause-count
returns-in_default-clause-count c =
    rows_alone _ c.loop-left.left c.loop-left.taken c.loop-left.place c.loop-left.row.now _ c.loop-left.invariant.so_far c.loop-left-test.true
    (sym c.in_default.ensures)

pub returns-in_default-first_line-clause-count : goal.returns-in_default-first_line-clause-count
returns-in_default-first_line-clause-count c =
    rows_end _ c.loop-left.left c.loop-left.taken c.passed-comments.result.0 c.loop-left.place c.in-Some.then c.loop-left.row.now
    c.in-Some._front.now _ (lines_of c.passed-comments.result.1.now) c.loop-left.invariant.so_far c.loop-left-test.true
    (sym c.in-Some.ensures) c.passed-comments.ensures.count c.passed-comments.ensures.rest c.in_default-first_line.ensures

pub loop-left-preserved : goal.loop-left-preserved
loop-left-preserved c = record {
  so_far =
      rows_more _ c.loop-left.left _ c.loop-left.taken c.passed-comments.result.0 _ c.loop-left.place c.in-Some.then c.loop-left.row.now
      c.in-Some._front.now c.in-Some-first_line.next.now _ (lines_of c.passed-comments.result.1.now) _ c.loop-left.invariant.so_far
      c.loop-left-test.true (sym c.in-Some.ensures) c.passed-comments.ensures.count c.passed-comments.ensures.rest
      c.in-Some-first_line.ensures.0 refl refl;
  within = omega (arith, c.in-Some-first_line.ensures.1, c.passed-comments.ensures.within, c.loop-left.invariant.within);
}

pub returns-clause-count : goal.returns-clause-count
returns-clause-count c =
    let none : c.loop-left.left ≡ 0 = omega (arith, c.loop-left-test.false) in
    rows_done _ c.loop-left.left c.loop-left.taken c.loop-left.place c.loop-left.row.now _ c.loop-left.invariant.so_far none
