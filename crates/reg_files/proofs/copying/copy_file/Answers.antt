use Rattle.std.proofs.Common.{ap, ◌∙◌}
use Rattle.reg_files.specs.Internal.Cuts.{is_copy_stop_cut}
use Rattle.reg_files.proofs.CopiedFiles.{copied, copy_cut_short, copy_ended}
use Rattle.reg_files.proofs.StoppedCommands.{from_err}
use Rattle.reg_files.proofs.copying.copy_file.Goals as goal

pub returns-in_err-line-clause-err : goal.returns-in_err-line-clause-err
returns-in_err-line-clause-err g c =
    from_err _ _ c.from_residual.result c.from_residual.ensures.1
    (λ end is. copy_ended c.args.request c.args.path.now c.args.into.now _ _ _ (ap is_copy_stop_cut is))

pub returns-in_err-begin-clause-err : goal.returns-in_err-begin-clause-err
returns-in_err-begin-clause-err g c =
    from_err _ _ c.from_residual-in_err-begin.result c.from_residual-in_err-begin.ensures.1
    (λ end is. copy_ended c.args.request c.args.path.now c.args.into.now _ _ _ (ap is_copy_stop_cut is))

pub returns-in-Err-clause-err : goal.returns-in-Err-clause-err
returns-in-Err-clause-err g c = copy_ended c.args.request c.args.path.now c.args.into.now _ _ _ c.stop_of.ensures

pub returns-in_err-save-clause-err : goal.returns-in_err-save-clause-err
returns-in_err-save-clause-err g c =
    from_err _ _ c.from_residual-in_err-save.result c.from_residual-in_err-save.ensures.1
    (λ end is. copy_ended c.args.request c.args.path.now c.args.into.now _ _ _ (ap is_copy_stop_cut is))

pub returns-in-Ok-tell_change-clause-ok : goal.returns-in-Ok-tell_change-clause-ok
returns-in-Ok-tell_change-clause-ok g c =
    copied c.args.request c.args.path.now c.args.into.now c.in_ok-begin.begin c.in-Ok.copied _ _ _ _ _ _ c.in_ok-begin.ensures c.in-Ok.ensures.ok
    _ (c.as_str-2.ensures.value ∙ c.in_ok-line.ensures) c.in-Ok-tell_change.ensures.ok

pub returns-clause-err : goal.returns-clause-err
returns-clause-err g c =
    copy_cut_short c.args.request c.args.path.now c.args.into.now c.in_ok-begin.begin c.in-Ok.copied _ _ _ _ _ _ c.in_ok-begin.ensures c.in-Ok.ensures.ok
    _ _ (c.as_str-2.ensures.value ∙ c.in_ok-line.ensures) c.in-Err-tell_change.ensures.err.0 c.in-Err-tell_change.ensures.err.1
