use Rattle.reg_files.proofs.StoppedCommands.{lines_stopped, same_cut_short}
use Rattle.reg_files.proofs.differing.compare_lines.Goals as goal

pub returns-in-Err-write_text-clause-err : goal.returns-in-Err-write_text-clause-err
returns-in-Err-write_text-clause-err g c =
    same_cut_short _ _ _ _ _ _ _ _ _ _ _ _ c.ignored_of.ensures c.in-Ok-true.field-0-test c.in-Ok-true.ensures.ok c.in-Err-write_text.ensures.written

pub returns-in-Err-clause-err : goal.returns-in-Err-clause-err
returns-in-Err-clause-err g c = lines_stopped _ _ _ _ _ _ _ _ _ _ c.in-Err.fault c.ignored_of.ensures c.from.ensures c.in-Err.ensures.err
