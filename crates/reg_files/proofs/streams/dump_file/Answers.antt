use Rattle.std.proofs.Common.{arith, inl, inr, subst}
use Rattle.reg_command.specs.Failures.{Does}
use Rattle.reg_words.specs.declared.request.StreamRequest.TheVariants as stream
use Rattle.reg_files.specs.Looking.{AnswerStops}
use Rattle.reg_files.specs.Internal.Fronts.{bytes_of}
use Rattle.reg_files.proofs.Outcomes.{looks, unopened}
use Rattle.reg_files.proofs.streams.dump_file.Goals as goal

pub returns-in-Ok-clause-answers : goal.returns-in-Ok-clause-answers
returns-in-Ok-clause-answers g c =
    λ e.
    (let before = g.W.Write.contents c.args.output.now in
    let after = g.W.Write.contents c.dump_in.new.output in
    let opened = c.in-Ok.ensures.ok in
    let done = c.dump_in.ensures.answers e in
    looks c.args.hive.is_dirty c.args.hive.file.now (g.W.Output.closed c.dump_in.new.output) before after _ _ _
    (g.E.Sink.failures c.dump_in.new.errors) opened.0 _ _ _ opened.2 _ opened.1 (λ u l. Does stream.Dump u l before after) done.0 done.1)

pub returns-in-Ok-clause-stops : goal.returns-in-Ok-clause-stops
returns-in-Ok-clause-stops g c =
    λ e.
    (let opened = c.in-Ok.ensures.ok in
    inr (
      opened.0,
      _,
      _,
      _,
      opened.2,
      subst (λ u. AnswerStops stream.Dump (g.W.Output.closed c.dump_in.new.output) (g.W.Write.contents c.args.output.now)
          (g.W.Write.contents c.dump_in.new.output) (g.E.Sink.contents c.dump_in.new.errors) (g.E.Sink.failures c.dump_in.new.errors) u
          (bytes_of g.H.File.Read.remaining c.dump_in.new.image) (g.E.Sink.contents c.open_image.new.errors)
          (g.E.Sink.failures c.open_image.new.errors))
          opened.1 (c.dump_in.ensures.stops e),
    ))

pub returns-in-Err-clause-answers : goal.returns-in-Err-clause-answers
returns-in-Err-clause-answers g c = λ nil. let one = c.settle.ensures.0 in absurd (omega (arith, one, nil))

pub returns-in-Err-clause-stops : goal.returns-in-Err-clause-stops
returns-in-Err-clause-stops g c =
    λ _. inl (unopened _ _ _ _ _ _ _ c.in-Err.ensures.err.1
    c.in-Err.ensures.err.2 c.settle.ensures.1)
