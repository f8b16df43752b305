use Rattle.std.proofs.Common.{◌∙◌}
use Rattle.reg_files.proofs.queries.find_in.Goals as goal

pub returns-in-Err-clause-err : goal.returns-in-Err-clause-err
returns-in-Err-clause-err g c = (_, (c.in-Err.fault, c.of_image.ensures.cut ∙ c.from.ensures, c.in-Err.ensures.err))
