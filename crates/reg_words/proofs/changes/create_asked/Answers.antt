use Rattle.std.proofs.Common.{codes, refl}
use Rattle.clap.specs.Words.{found_of, rows_of}
use Rattle.reg_words.specs.CommandLines.{AsksForKey}
use Rattle.reg_words.proofs.AskedChanges.{is_given, not_given, no_key, no_create}
use Rattle.reg_words.proofs.changes.create_asked.Goals as goal

pub returns-in-Some : goal.returns-in-Some
returns-in-Some c = (
  refl,
  is_given (AsksForKey (codes "path") (rows_of (found_of c.args.matches.now))) (λ v. v.items) _ c.in_ok-path.field-0 c.in-Some.path c.in-Some.is
      c.in_ok-path.ensures,
  c.is_set.ensures,
)

pub returns-in-None : goal.returns-in-None
returns-in-None c = no_create (rows_of (found_of c.args.matches.now))
    (no_key (codes "path") (rows_of (found_of c.args.matches.now)) (not_given (AsksForKey (codes "path") (rows_of (found_of c.args.matches.now))) (λ v. v.items) _
    c.in_ok-path.field-0 c.in-None.is c.in_ok-path.ensures))
