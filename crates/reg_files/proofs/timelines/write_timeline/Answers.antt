use Rattle.reg_files.proofs.ToldTimelines.{cut_as_asked}
use Rattle.reg_files.proofs.timelines.write_timeline.Goals as goal

pub returns-in-Err-clause-err : goal.returns-in-Err-clause-err
returns-in-Err-clause-err g c =
    λ trees from to h. cut_as_asked _ _ _ _ trees from to _ _ c.in-Err.fault c.table_form.ensures c.from.ensures
    (c.in-Err.ensures.err trees from to h)
