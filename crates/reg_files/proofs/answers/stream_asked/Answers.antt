use Rattle.reg_words.specs.declared.request.Request.TheVariants.{Stream}
use Rattle.reg_files.proofs.Outcomes.{either}
use Rattle.reg_files.proofs.answers.stream_asked.Goals as goal

pub returns : goal.returns
returns g c =
    either (Stream c.args.request) _ _ _ _ _ _ _ _ _ c.serve_stream.result c.serve_stream.ensures.status c.serve_stream.ensures.done
    c.serve_stream.ensures.stopped
