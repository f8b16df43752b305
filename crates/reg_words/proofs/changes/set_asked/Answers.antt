use Rattle.std.proofs.Common.{codes}
use Rattle.clap.specs.Words.{found_of, rows_of}
use Rattle.reg_words.specs.CommandLines.{AsksForKey}
use Rattle.reg_words.proofs.AskedChanges.{is_given, not_given, no_key, no_set}
use Rattle.reg_words.proofs.changes.set_asked.Goals as goal

pub set_in-requires : goal.set_in-requires
set_in-requires c =
    is_given (AsksForKey (codes "path") (rows_of (found_of c.args.matches.now))) (λ v. v.items) _ c.in_ok-path.field-0 c.in-Some.path c.in-Some.is
    c.in_ok-path.ensures

pub returns-in-None : goal.returns-in-None
returns-in-None c =
    no_set (rows_of (found_of c.args.matches.now))
    (λ path name contents k n h. no_key (codes "path") (rows_of (found_of c.args.matches.now))
    (not_given (AsksForKey (codes "path") (rows_of (found_of c.args.matches.now))) (λ v. v.items) _
    c.in_ok-path.field-0 c.in-None.is c.in_ok-path.ensures) path k)
