use Rattle.std.proofs.Common.{refl}
use Rattle.reg_files.proofs.streams.dump_in.Goals as goal

pub returns-in-Ok-clause-answers : goal.returns-in-Ok-clause-answers
returns-in-Ok-clause-answers g c = λ _. (c.in-Ok.ensures.ok, refl)

pub returns-in-Err-clause-stops : goal.returns-in-Err-clause-stops
returns-in-Err-clause-stops g c = λ _. (c.in-Err.stop, c.in-Err.ensures.err, c.settle_stop.ensures)
