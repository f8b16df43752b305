use Rattle.std.proofs.Common.{ap, map, refl}
use Rattle.reg_words.specs.declared.request.Request.TheVariants.{Check}
use Rattle.reg_files.proofs.Outcomes.{all_counted}
use Rattle.reg_files.proofs.answers.check_asked.Goals as goal

pub returns : goal.returns
returns g c =
    λ unread. all_counted (Check c.args.files c.args.is_dirty c.args.is_verbose) c.args.is_dirty c.args.is_verbose (g.W.Output.closed c.check_files.new.output) unread
    (g.W.Write.contents c.args.output.now) (g.W.Write.contents c.check_files.new.output) (g.E.Sink.contents c.args.errors.now)
    (g.E.Sink.contents c.check_files.new.errors) (g.E.Sink.failures c.args.errors.now) (g.E.Sink.failures c.check_files.new.errors) _ _
    c.check_files.result (ap (λ files. map (λ file. file.now) files) c.as_slice.ensures.value)
    c.check_files.ensures.status c.check_files.ensures.checks
    (λ checks. (refl, (g.W.Output.closed c.check_files.new.output, g.E.Sink.failures c.check_files.new.errors, checks)))
    (λ checks. (refl, checks))
