use Rattle.reg_files.proofs.Outcomes.{counted, uncounted, unopened}
use Rattle.reg_files.proofs.streams.count_file.Goals as goal

pub returns-in-Ok-clause-checks : goal.returns-in-Ok-clause-checks
returns-in-Ok-clause-checks g c =
    let opened = c.in-Ok.ensures.ok in
    counted c.args.hive.is_dirty c.args.is_verbose c.args.is_named c.args.hive.file.now (g.W.Output.closed c.count_in.new.output) _ _ _ _ _ _ opened.0 _ _ _ opened.2 _
    opened.1 c.count_in.result c.count_in.ensures.status c.count_in.ensures.counted c.count_in.ensures.stops

pub returns-in-Err-clause-checks : goal.returns-in-Err-clause-checks
returns-in-Err-clause-checks g c =
    uncounted c.args.hive.is_dirty c.args.is_verbose c.args.is_named c.args.hive.file.now _ _ _ _ _ _ _ c.settle.result c.settle.ensures.0
    (unopened _ _ _ _ _ _ _ c.in-Err.ensures.err.1
    c.in-Err.ensures.err.2 c.settle.ensures.1)
