use Rattle.std.proofs.Common.{inl, inr}
use Rattle.reg_files.proofs.Gathered.{gathered_in, missed_in}
use Rattle.reg_files.proofs.timelines.gather_image.Goals as goal

pub returns-in-Ok-clause-ok : goal.returns-in-Ok-clause-ok
returns-in-Ok-clause-ok g c =
    λ trees h. gathered_in _ _ c.in-Ok.tree.tree c.in-Ok.ensures.ok _ c.gather_tree.result (c.gather_tree.ensures.ok trees h)

pub returns-in-Ok-clause-missed : goal.returns-in-Ok-clause-missed
returns-in-Ok-clause-missed g c = missed_in _ c.gather_tree.result (_, inr (c.in-Ok.tree.tree, c.in-Ok.ensures.ok))

pub returns-in-Err-clause-missed : goal.returns-in-Err-clause-missed
returns-in-Err-clause-missed g c = (_, inl (c.in-Err.fault, c.in-Err.ensures.err))
