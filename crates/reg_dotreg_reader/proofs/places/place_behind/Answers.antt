use Rattle.std.proofs.Common.{length, ap, arith}
use Rattle.reg_dotreg_reader.proofs.LinePlaces.{place_next}
use Rattle.reg_dotreg_reader.proofs.places.place_behind.Goals as goal

pub loop-unit-preserved : goal.loop-unit-preserved
loop-unit-preserved c =
    let long = ap length c.in-Some.ensures.cases.0 in
    record {
      so_far =
          place_next _ c.place_after-row_after.result c.loop-unit.row c.loop-unit.column c.in-Some.unit.now c.loop-unit.rest.now
          c.in-Some.others.now c.loop-unit.invariant.so_far c.in-Some.ensures.cases.0 c.place_after-row_after.ensures.place;
      rows = omega (arith, long, c.place_after-row_after.ensures.row, c.loop-unit.invariant.rows);
      columns = omega (arith, long, c.place_after-row_after.ensures.column, c.loop-unit.invariant.columns);
    }
