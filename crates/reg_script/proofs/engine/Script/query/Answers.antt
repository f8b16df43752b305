use Rattle.std.proofs.Common.{refl}
use Rattle.reg_model.specs.declared.step.Outcome.TheVariants.{Answered}
use Rattle.reg_script.proofs.ProgressLemmas.{from_empty}
use Rattle.reg_script.proofs.engine.Script.query.Goals as goal

pub returns : goal.returns
returns g c = (
  Answered c.read_by-answer.result,
  (c.read_by-answer.ensures.at, c.read_by-answer.ensures.body, refl),
  from_empty _ _ _ c.in_ok-write_answered.ensures c.new-reply.ensures.bytes,
  refl,
)
