use Rattle.std.proofs.Common.{◌∙◌, ℕ, List, inl, inr, subst}
use Rattle.reg_files.specs.Looking.{IsCutReported}
use Rattle.reg_files.proofs.streams.report_written.Goals as goal

pub returns-in-Ok : goal.returns-in-Ok
returns-in-Ok g c =
    subst (λ (what : List ℕ). IsCutReported (g.W.Output.closed c.args.output.now) what (g.E.Sink.contents c.args.errors.now)
    (g.E.Sink.contents c.report_cut.new.errors) (g.E.Sink.failures c.args.errors.now) (g.E.Sink.failures c.report_cut.new.errors))
    (c.as_str.ensures.value ∙ c.in-Ok.ensures.ok) c.report_cut.ensures

pub returns-in-Err : goal.returns-in-Err
returns-in-Err g c = inr (inl c.say.ensures)
