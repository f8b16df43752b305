use Rattle.std.proofs.Common.{inl, ap, refl, ◌∙◌}
use Rattle.reg_files.specs.Internal.Cuts.{is_cut}
use Rattle.reg_files.proofs.ChangedFiles.{changed, untold, change-uncut}
use Rattle.reg_files.proofs.StoppedCommands.{while_err}
use Rattle.reg_files.proofs.commands.change_opened.Goals as goal

pub returns-in-Ok-clause-ok : goal.returns-in-Ok-clause-ok
returns-in-Ok-clause-ok g c =
    changed c.args.request c.args.asked c.in_ok-begin.begin c.in-Ok.changed _ _ _ _ _ c.in_ok-begin.ensures c.in-Ok.ensures.ok
    c.requires c.save_change.result c.save_change.ensures.ok

pub returns-in-Ok-clause-err : goal.returns-in-Ok-clause-err
returns-in-Ok-clause-err g c = while_err _ _ c.save_change.result c.save_change.ensures.err (λ end. untold c.args.asked c.args.line.now _ _ _ c.requires)

pub returns-in-Err-clause-err : goal.returns-in-Err-clause-err
returns-in-Err-clause-err g c = inl (c.of_file-fault.ensures.cut ∙ (ap is_cut c.from.ensures ∙ change-uncut c.in-Err.fault), refl)
