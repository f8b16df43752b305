use Rattle.std.proofs.Common.{refl}
use Rattle.std.specs.Fmt.{digits}
use Rattle.reg_command.proofs.CommandSteps.{script_line_at}
use Rattle.reg_command.proofs.reports.line_of.Goals as goal

pub returns-in-Read : goal.returns-in-Read
unfolding digits
returns-in-Read c = script_line_at c.args.fault _ _ c.in-Read.is refl

pub returns-in-Write : goal.returns-in-Write
unfolding digits
returns-in-Write c = script_line_at c.args.fault _ _ c.in-Write.is refl

pub returns-in-TooLong : goal.returns-in-TooLong
unfolding digits
returns-in-TooLong c = script_line_at c.args.fault _ _ c.in-TooLong.is refl

pub returns-in-Memory : goal.returns-in-Memory
unfolding digits
returns-in-Memory c = script_line_at c.args.fault _ _ c.in-Memory.is refl
