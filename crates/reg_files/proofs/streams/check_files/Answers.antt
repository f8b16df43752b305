use Rattle.reg_files.proofs.CheckedFiles.{of_several}
use Rattle.reg_files.proofs.streams.check_files.Goals as goal

pub returns-clause-checks : goal.returns-clause-checks
returns-clause-checks g c =
    of_several (λ file. file.now) c.args.is_dirty c.args.is_verbose c.args.files.now c.count_all.result _ _ _ _ _ _ _ c.count_all.ensures.checks
