use Rattle.reg_files.proofs.differing.write_changes.Goals as goal

pub returns-in-Err-clause-err : goal.returns-in-Err-clause-err
returns-in-Err-clause-err g c = (c.in-Err.fault, c.from.ensures, c.in-Err.ensures.err)
