use Rattle.std.proofs.Common.{codes, inl, inr}
use Rattle.clap.specs.Words.{found_of, rows_of}
use Rattle.reg_words.specs.CommandLines.{AsksForKey}
use Rattle.reg_words.proofs.AskedChanges.{is_given, not_given}
use Rattle.reg_words.proofs.AskedNothing.{no_copy}
use Rattle.reg_words.proofs.changes.copy_in.Goals as goal

pub copy_of-requires-clause-path : goal.copy_of-requires-clause-path
copy_of-requires-clause-path c =
    is_given (AsksForKey (codes "path") (rows_of (found_of c.args.matches.now))) (λ v. v.items) _ c.in_ok-path.field-0 c.in-Some.path c.in-Some.is
    c.in_ok-path.ensures

pub returns-in-None : goal.returns-in-None
returns-in-None c =
    no_copy (rows_of (found_of c.args.matches.now))
    (inr (inr (inl (not_given (AsksForKey (codes "path") (rows_of (found_of c.args.matches.now))) (λ v. v.items) _
    c.in_ok-path.field-0 c.in-None.is c.in_ok-path.ensures))))
