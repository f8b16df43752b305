use Rattle.std.proofs.Common.{ℕ, ◌+◌, List, ◌++◌, arith, refl, sym, ap, ◌∙◌}
use Rattle.reg_dotreg_reader.specs.EntryLines.{lines_of}
use Rattle.reg_dotreg_reader.proofs.ValueRows.{join_pass, join_more, join_alone, join_last, if_made}
use Rattle.reg_dotreg_reader.proofs.rows.joined.Goals as goal

pub returns-in_default-first_line-clause-units : goal.returns-in_default-first_line-clause-units
returns-in_default-first_line-clause-units c =
    let s = join_pass _ _ c.loop-front.units.items c.loop-front.place c.in-Some.then c.loop-front.row.now c.in-Some.front.now _
    (lines_of c.passed-comments.result.1.now) c.loop-front.taken c.passed-comments.result.0
    (c.loop-front.taken + c.passed-comments.result.0) c.loop-front.invariant.so_far (sym c.in-Some.ensures)
    c.passed-comments.ensures.count c.passed-comments.ensures.rest refl in
    if_made c.ended.result _ _ (λ j e. (join_last _ _ c.loop-front.units.items j.units.items c.loop-front.place c.loop-front.row.now _ _
    s c.in_default-first_line.ensures (e ∙ ap (λ (w : List ℕ). c.loop-front.units.items ++ w) c.kept.ensures)).units_are) c.ended.ensures.units

pub returns-in_default-first_line-clause-taken : goal.returns-in_default-first_line-clause-taken
returns-in_default-first_line-clause-taken c =
    let s = join_pass _ _ c.loop-front.units.items c.loop-front.place c.in-Some.then c.loop-front.row.now c.in-Some.front.now _
    (lines_of c.passed-comments.result.1.now) c.loop-front.taken c.passed-comments.result.0
    (c.loop-front.taken + c.passed-comments.result.0) c.loop-front.invariant.so_far (sym c.in-Some.ensures)
    c.passed-comments.ensures.count c.passed-comments.ensures.rest refl in
    if_made c.ended.result _ _ (λ j e. e ∙ (join_last _ _ c.loop-front.units.items _ c.loop-front.place c.loop-front.row.now _ _
    s c.in_default-first_line.ensures refl).taken_is) c.ended.ensures.taken

pub loop-front-preserved : goal.loop-front-preserved
loop-front-preserved c = record {
  so_far =
      join_more _ _ c.loop-front.units.items c.extend_from_slice.new.self.items c.push.new.self.items c.loop-front.place c.in-Some.then
      c.loop-front.row.now c.in-Some.front.now c.in-Some-first_line.next.now _ (lines_of c.passed-comments.result.1.now) _
      c.loop-front.taken c.passed-comments.result.0 _ c.loop-front.invariant.so_far (sym c.in-Some.ensures)
      c.passed-comments.ensures.count c.passed-comments.ensures.rest c.in-Some-first_line.ensures.0
      c.in_ok-extend_from_slice.ensures.items c.in_ok-push.ensures.items refl;
  within = omega (arith, c.in-Some-first_line.ensures.1, c.passed-comments.ensures.within, c.loop-front.invariant.within);
}

pub returns-clause-units : goal.returns-clause-units
returns-clause-units c =
    if_made c.ended-2.result _ _ (λ j e. (join_alone _ _ c.loop-front.units.items j.units.items c.loop-front.place c.loop-front.row.now _ _
    c.loop-front.invariant.so_far (sym c.in_default.ensures)
    (e ∙ ap (λ (w : List ℕ). c.loop-front.units.items ++ w) c.kept-2.ensures)).units_are) c.ended-2.ensures.units

pub returns-clause-taken : goal.returns-clause-taken
returns-clause-taken c =
    if_made c.ended-2.result _ _ (λ j e. e ∙ (join_alone _ _ c.loop-front.units.items _ c.loop-front.place c.loop-front.row.now _ _
    c.loop-front.invariant.so_far (sym c.in_default.ensures) refl).taken_is) c.ended-2.ensures.taken
