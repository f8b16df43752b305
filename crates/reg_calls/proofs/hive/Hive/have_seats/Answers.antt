use Rattle.std.proofs.Common.{ℕ, ◌≡◌, arith, refl, ◌∙◌, sym, ap, subst, slice_index_or, inl, inr}
use Rattle.std.proofs.lemmas.List.{get_or_default}
use Rattle.std.proofs.lemmas.Bool.{cases_eq}
use Rattle.reg_model.specs.declared.step.Step.{Step}
use Rattle.reg_calls.specs.HiveView.{view_of, noted_of}
use Rattle.reg_calls.specs.Seats.{IsSeated}
use Rattle.reg_calls.proofs.hive.Hive.have_seats.Goals as goal

pub loop-step-init : goal.loop-step-init
loop-step-init g c = λ k d below. absurd (omega (arith, below))

pub loop-step-preserved : goal.loop-step-preserved
loop-step-preserved g c = λ k d below.
    elim (cases_eq k c.loop-step.step-index) [
      | inl same ↦ (let steps = c.args.steps.now in
          let is : c.step-item.result ≡ slice_index_or steps k d =
          c.step-item.is ∙ (get_or_default steps c.loop-step.step-index c.step-item.result d c.loop-step-test.true ∙ ap (λ (n : ℕ). slice_index_or steps n d) (sym same)) in
          subst (λ (s : Step). IsSeated (noted_of c.args.self.now) (view_of c.args.self.now).journal c.args.shares.now s.session) is (c.if-not-is_seated.ensures.0 refl))
      | inr other ↦ c.loop-step.invariant k d (omega (arith, below, other))
    ]

pub returns : goal.returns
returns g c = ((λ yes k d below. c.loop-step.invariant k d (let past = c.loop-step-test.false in omega (arith, below, past))), (λ all. refl))
