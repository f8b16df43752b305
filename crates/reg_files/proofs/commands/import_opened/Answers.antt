use Rattle.std.proofs.Common.{inr}
use Rattle.reg_files.proofs.EditedFiles.{entered, import_stopped}
use Rattle.reg_files.proofs.StoppedCommands.{always_ok, always_err}
use Rattle.reg_files.proofs.commands.import_opened.Goals as goal

pub returns-in-Ok-clause-ok : goal.returns-in-Ok-clause-ok
returns-in-Ok-clause-ok g c =
    always_ok c.save.result (entered c.args.request c.in_ok-begin.begin c.in-Ok.imported c.in_ok-begin.ensures _ _ _ _ _ c.in-Ok.ensures.ok)

pub returns-in-Ok-clause-err : goal.returns-in-Ok-clause-err
returns-in-Ok-clause-err g c =
    always_err c.save.result
    (inr (inr (entered c.args.request c.in_ok-begin.begin c.in-Ok.imported c.in_ok-begin.ensures _ _ _ _ _ c.in-Ok.ensures.ok)))

pub returns-in-Err-clause-err : goal.returns-in-Err-clause-err
returns-in-Err-clause-err g c =
    inr (import_stopped c.args.request c.in_ok-begin.begin c.in_ok-begin.ensures _ c.args.tells_all c.in-Err.fault _ _ _ _ c.in-Err.ensures.err)
