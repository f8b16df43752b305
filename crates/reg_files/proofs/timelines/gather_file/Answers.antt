use Rattle.std.proofs.Common.{inl, inr}
use Rattle.reg_files.proofs.Gathered.{opened_file, unread_file, unopened_file}
use Rattle.reg_files.proofs.timelines.gather_file.Goals as goal

pub returns-in-Ok-gather_image-clause-gathered : goal.returns-in-Ok-gather_image-clause-gathered
returns-in-Ok-gather_image-clause-gathered g c = λ trees h _.
    (let opened = c.in-Ok.ensures.ok in
    let read = c.in-Ok-gather_image.ensures.ok trees h in
    (read.0, opened_file _ _ _ _ _ opened.0 _ _ opened.2 _ opened.1 read.0 read.1, read.2))

pub returns-in-Ok-clause-missed : goal.returns-in-Ok-clause-missed
returns-in-Ok-clause-missed g c = λ _.
    (let opened = c.in-Ok.ensures.ok in
    inr (unread_file _ _ _ _ _ _ opened.0 _ _ opened.2 _ opened.1 c.in-Err-gather_image.ensures.missed c.settle.ensures.1))

pub returns-clause-missed : goal.returns-clause-missed
returns-clause-missed g c =
    λ _. inl (unopened_file c.args.hive.is_dirty c.args.hive.file.now _ _ _ _ _ _ c.in-Err.ensures.err.1 c.in-Err.ensures.err.2
    c.settle-in-Err.ensures.1)
