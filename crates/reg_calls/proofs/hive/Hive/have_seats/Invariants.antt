use Rattle.std.proofs.Common.{ℕ, ◌<◌, slice_index_or}
use Rattle.reg_model.specs.declared.step.Step.{Step}
use Rattle.reg_calls.specs.HiveView.{view_of, noted_of}
use Rattle.reg_calls.specs.Seats.{IsSeated}
use Rattle.reg_calls.proofs.hive.Hive.have_seats.Given as goal

abbrev pub invariant-loop-step : goal.invariant-loop-step
invariant-loop-step g l = (k : ℕ) (d : Step) → k < l.step-index →
    IsSeated (noted_of l.fn.self) (view_of l.fn.self).journal l.fn.shares (slice_index_or l.fn.steps k d).session
