use Rattle.std.proofs.Common.{false, true}
use Rattle.reg_files.proofs.Detailed.{listed, unlisted, told_long, untold_long}
use Rattle.reg_files.proofs.queries.list_as.Goals as goal

pub returns-then-is_detailed-clause-ok : goal.returns-then-is_detailed-clause-ok
returns-then-is_detailed-clause-ok g c =
    listed c.args.columns c.args.is_tree c.args.is_whole _ _ _ _ _ c.list_long.result true c.is_detailed.result c.is_detailed.ensures
    c.if-is_detailed.true
    (told_long c.args.columns c.args.is_tree c.args.is_whole _ _ _ _ _ c.list_long.result _ c.table_columns.ensures c.list_long.ensures.ok)

pub returns-then-is_detailed-clause-err : goal.returns-then-is_detailed-clause-err
returns-then-is_detailed-clause-err g c =
    unlisted c.args.columns c.args.is_tree c.args.is_whole _ _ _ _ _ c.list_long.result true c.is_detailed.result c.is_detailed.ensures
    c.if-is_detailed.true
    (untold_long c.args.columns c.args.is_tree c.args.is_whole _ _ _ _ _ c.list_long.result _ c.table_columns.ensures c.list_long.ensures.err)

pub returns-clause-ok : goal.returns-clause-ok
returns-clause-ok g c =
    listed c.args.columns c.args.is_tree c.args.is_whole _ _ _ _ _ c.list.result false c.is_detailed.result c.is_detailed.ensures
    c.if-is_detailed.false c.list.ensures.ok

pub returns-clause-err : goal.returns-clause-err
returns-clause-err g c =
    unlisted c.args.columns c.args.is_tree c.args.is_whole _ _ _ _ _ c.list.result false c.is_detailed.result c.is_detailed.ensures
    c.if-is_detailed.false c.list.ensures.err
