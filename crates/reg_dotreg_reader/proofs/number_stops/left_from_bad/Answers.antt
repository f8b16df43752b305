use Rattle.std.proofs.Common.{rules, ◌≡◌, false, true, length-take, length-drop, arith, refl, sym}
use Rattle.reg_dotreg_reader.proofs.StopPlaces.{stop_next, stop_here, stop_blank, stop_byte, stop_last}
use Rattle.reg_dotreg_reader.proofs.number_stops.left_from_bad.Goals as goal

pub returns-then-not-is_byte_to : goal.returns-then-not-is_byte_to
returns-then-not-is_byte_to c =
    let not_byte : c.is_byte_to.result ≡ false = search rules in
    stop_here _ _ c.loop-comma.rest.now c.in-Some.comma c.left_behind_blanks.result _ c.is_byte_to.result c.loop-comma.invariant.so_far
    (sym c.in-Some.ensures.place) c.is_byte_to.ensures not_byte c.left_behind_blanks.ensures.count refl

pub loop-comma-preserved : goal.loop-comma-preserved
loop-comma-preserved c =
    let is_one : c.is_byte_to.result ≡ true = search rules in
    record {
      so_far =
          stop_next _ _ c.loop-comma.rest.now _ c.in-Some.comma c.is_byte_to.result c.loop-comma.invariant.so_far (sym c.in-Some.ensures.place)
          c.is_byte_to.ensures is_one refl;
      within = simp (length-take, length-drop) (omega (arith, c.loop-comma.invariant.within));
    }

pub returns-then-last-eq0 : goal.returns-then-last-eq0
returns-then-last-eq0 c =
    stop_blank _ _ c.loop-comma.rest.now c.left_behind_blanks-last.result c.loop-comma.invariant.so_far (sym c.in_default.ensures.place)
    c.left_behind_blanks-last.ensures.count (search rules)

pub returns-then-is_byte_to : goal.returns-then-is_byte_to
returns-then-is_byte_to c =
    stop_byte _ _ c.loop-comma.rest.now _ c.loop-comma.invariant.so_far (sym c.in_default.ensures.place) c.is_byte_to-2.ensures c.if-is_byte_to.true

pub returns : goal.returns
returns c =
    stop_last _ _ c.loop-comma.rest.now c.left_behind_blanks-last.result _ c.loop-comma.invariant.so_far (sym c.in_default.ensures.place)
    c.left_behind_blanks-last.ensures.count (search rules) c.is_byte_to-2.ensures c.if-is_byte_to.false
