use Rattle.clap.specs.Words.{found_of, rows_of}
use Rattle.reg_words.specs.CommandLines.{AsksForName}
use Rattle.reg_words.proofs.AskedChanges.{is_given, not_given, no_name, no_set}
use Rattle.reg_words.proofs.changes.set_in.Goals as goal

pub set_of-requires-clause-name : goal.set_of-requires-clause-name
set_of-requires-clause-name c =
    is_given (AsksForName (rows_of (found_of c.args.matches.now))) (λ v. v.items) _ c.in_ok-name.field-0 c.in-Some.name c.in-Some.is
    c.in_ok-name.ensures

pub returns-in-None : goal.returns-in-None
returns-in-None c =
    no_set (rows_of (found_of c.args.matches.now))
    (λ path name contents k n h. no_name (rows_of (found_of c.args.matches.now))
    (not_given (AsksForName (rows_of (found_of c.args.matches.now))) (λ v. v.items) _
    c.in_ok-name.field-0 c.in-None.is c.in_ok-name.ensures) name n)
