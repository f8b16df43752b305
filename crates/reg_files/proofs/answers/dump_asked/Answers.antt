use Rattle.std.proofs.Common.{refl}
use Rattle.reg_words.specs.declared.request.Request.TheVariants.{Dump}
use Rattle.reg_files.proofs.Outcomes.{either}
use Rattle.reg_files.proofs.answers.dump_asked.Goals as goal

pub returns : goal.returns
returns g c =
    λ unread. either (Dump c.args.hive) _ unread unread _ _ _ _ _ _ c.dump_file.result c.dump_file.ensures.status
    (λ e. (refl, c.dump_file.ensures.answers e)) (λ e. (refl, c.dump_file.ensures.stops e))
