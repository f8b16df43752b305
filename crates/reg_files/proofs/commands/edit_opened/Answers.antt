use Rattle.std.proofs.Common.{◌∙◌}
use Rattle.reg_files.specs.Internal.Cuts.{is_save_end_cut}
use Rattle.reg_files.proofs.EditedFiles.{edit_stopped, edited_well, edited_in_vain}
use Rattle.reg_files.proofs.StoppedCommands.{when_ok, while_err}
use Rattle.reg_files.proofs.commands.edit_opened.Goals as goal

pub returns-in-Ok-clause-ok : goal.returns-in-Ok-clause-ok
returns-in-Ok-clause-ok g c =
    when_ok c.save_script.result c.save_script.ensures.ok
    (λ none. edited_well c.args.request c.in_ok-begin.begin c.in-Ok.edited c.in_ok-begin.ensures c.args.keeps_going _ _ _ _ _ _ c.in-Ok.ensures.ok none)

pub returns-in-Ok-clause-err : goal.returns-in-Ok-clause-err
returns-in-Ok-clause-err g c =
    while_err _ _ c.save_script.result c.save_script.ensures.err
    (λ end. edited_in_vain c.args.request c.in_ok-begin.begin c.in-Ok.edited c.in_ok-begin.ensures c.args.keeps_going _ _ _ _ _ _
    c.in-Ok.ensures.ok (is_save_end_cut end))

pub returns-in-Err-clause-err : goal.returns-in-Err-clause-err
returns-in-Err-clause-err g c =
    edit_stopped c.args.request c.in_ok-begin.begin c.in_ok-begin.ensures c.args.keeps_going c.in-Err.fault _ _ _ _ _ _ _
    (c.of_file-fault.ensures.cut ∙ c.from.ensures) c.in-Err.ensures.err
