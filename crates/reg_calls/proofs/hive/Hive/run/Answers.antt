use Rattle.std.proofs.Common.{arith, subst, ◌∙◌}
use Rattle.std.specs.Prelude.{All}
use Rattle.std.proofs.lemmas.Grind.{common_steps}
use Rattle.std.proofs.lemmas.List.Elements.{All-tail}
use Rattle.reg_model.specs.declared.step.Step.{Step}
use Rattle.reg_calls.specs.HiveView.{view_of, noted_of}
use Rattle.reg_calls.specs.Seats.{IsSeated}
use Rattle.reg_calls.proofs.RunSteps.{Run-more}
use Rattle.reg_calls.proofs.SharesOfHives.{counted-more}
use Rattle.reg_calls.proofs.hive.Hive.run.Goals as goal

pub loop-step-preserved : goal.loop-step-preserved
loop-step-preserved g c =
    let same = c.loop-step.invariant.callbacks in
    let more = Run-more g.C.Callback.answers _ _ _ _ _ _ _ _ _ same c.loop-step.invariant.ran c.answer-outcome.ensures.step in
    let next = c.in-Some.ensures.steps in
    let seat : Step → Type 0 = λ s. IsSeated (noted_of c.args.self.now) (view_of c.args.self.now).journal c.args.shares.now.items s.session in
    record {
      callbacks = c.answer-outcome.ensures.callbacks ∙ same;
      noted = c.answer-outcome.ensures.noted ∙ c.loop-step.invariant.noted;
      ran = grind (arith, common_steps, more);
      counted = counted-more _ _ _ _ _ _ c.loop-step.invariant.counted c.answer-outcome.ensures.counted;
      count = grind (arith, common_steps);
      left = grind (arith, common_steps);
      room = grind (arith, common_steps);
      seats = All-tail seat _ _ (subst (All seat) next.0 c.loop-step.invariant.seats);
    }
