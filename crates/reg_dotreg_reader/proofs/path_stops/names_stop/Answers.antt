use Rattle.std.proofs.Common.{length-take, length-drop, arith, refl, sym, ◌∙◌}
use Rattle.reg_dotreg_reader.proofs.StopPlaces.{names_next, names_here, names_end, names_fine}
use Rattle.reg_dotreg_reader.proofs.path_stops.names_stop.Goals as goal

pub returns-in-Some-name_wanted : goal.returns-in-Some-name_wanted
returns-in-Some-name_wanted c =
    names_here _ c.loop-end.room c.loop-end.rest.now c.in-Some.end c.in-Some-name_wanted.expected c.loop-end.invariant.so_far
    (sym c.in-Some.ensures) (sym c.in-Some-name_wanted.ensures)

pub loop-end-preserved : goal.loop-end-preserved
loop-end-preserved c = record {
  so_far =
      names_next _ c.loop-end.room c.saturating_sub-room.result c.loop-end.rest.now _ c.in-Some.end c.loop-end.invariant.so_far
      (sym c.in-Some.ensures) (sym c.in_default-name_wanted.ensures) c.saturating_sub-room.ensures refl;
  within = simp (length-take, length-drop) (omega (arith, c.loop-end.invariant.within));
}

pub returns-in-Some-name_wanted-2 : goal.returns-in-Some-name_wanted-2
returns-in-Some-name_wanted-2 c =
    names_end _ c.loop-end.room c.loop-end.rest.now c.in-Some-name_wanted-2.expected c.loop-end.invariant.so_far (sym c.in_default.ensures)
    (sym c.in-Some-name_wanted-2.ensures)

pub returns-in-None : goal.returns-in-None
returns-in-None c =
    names_fine _ c.loop-end.room c.loop-end.rest.now c.loop-end.invariant.so_far (sym c.in_default.ensures) (sym c.in-None.ensures)
