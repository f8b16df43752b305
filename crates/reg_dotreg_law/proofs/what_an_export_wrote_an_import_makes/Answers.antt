use Rattle.reg_dotreg_law.proofs.ReturnedHives.{branch-returns, tree-returns, is-read}
use Rattle.reg_dotreg_law.proofs.what_an_export_wrote_an_import_makes.Goals as goal

pub returns-clause-read : goal.returns-clause-read
returns-clause-read c =
    λ unread left path file held front given is_utf8 old export bare named.
    is-read unread left path file held front given is_utf8 0 old export bare named

pub returns-clause-branch : goal.returns-clause-branch
returns-clause-branch c =
    λ unread left path file held front given is_utf8 moment old last export applied bare named.
    branch-returns unread left path file held front given is_utf8 moment old export bare named last applied

pub returns-clause-whole : goal.returns-clause-whole
returns-clause-whole c = tree-returns
