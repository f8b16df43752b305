use Rattle.std.proofs.Common.{◌≡◌, ◌∙◌, false, length, ap, arith, refl, sym}
use Rattle.reg_dotreg_reader.specs.EntryLines.{lines_of}
use Rattle.reg_dotreg_reader.proofs.BadSteps.{bad_next, few_more}
use Rattle.reg_dotreg_reader.proofs.checking.bad_behind.Goals as goal

pub loop-line-preserved : goal.loop-line-preserved
loop-line-preserved c =
    let none : c.args.tells_all ≡ false → length c.loop-line.bad.items ≡ 0 =
    λ e. ap length (sym c.deref.ensures.value) ∙ c.is_done.ensures.goes_on c.if-is_done.false e in
    record {
      so_far =
          bad_next _ _ _ c.loop-line.bad.items _ c.in_ok-step.step.bad c.loop-line.is_open _ c.loop-line.taken _ c.in_ok-step.step.taken _
          c.in-Some.line.now _ (lines_of c.in-Some.behind.now) _ c.loop-line.invariant.so_far c.in-Some.ensures.0 refl c.in_ok-step.ensures.step
          c.in_ok-step.ensures.rest c.in_ok-push_one.ensures refl;
      few = few_more c.args.tells_all c.loop-line.bad.items _ c.in_ok-step.step.bad none c.in_ok-push_one.ensures;
      within = omega (arith, c.in-Some.ensures.1, c.in_ok-step.ensures.within, c.loop-line.invariant.within);
    }
