use Rattle.reg_dotreg_law.proofs.ReturnedChanges.{changes-read, changes-return, same-named}
use Rattle.reg_dotreg_law.proofs.what_changes_wrote_an_import_makes.Goals as goal

pub returns-clause-read : goal.returns-clause-read
returns-clause-read c =
    λ unread_old left_old unread_new left_new file held is_utf8 is_none hive export named.
    changes-read unread_old left_old unread_new left_new file held is_utf8 is_none hive export named

pub returns-clause-same : goal.returns-clause-same
returns-clause-same c =
    λ unread_old left_old unread_new left_new file held is_utf8 is_none moment hive last export applied same.
    changes-return unread_old left_old unread_new left_new file held is_utf8 is_none hive export
    (same-named hive export.old same) moment last applied same
