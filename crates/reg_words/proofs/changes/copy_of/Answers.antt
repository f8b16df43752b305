use Rattle.std.proofs.Common.{codes, inr, refl}
use Rattle.clap.specs.Words.{found_of, rows_of}
use Rattle.reg_words.specs.CommandLines.{AsksForKey}
use Rattle.reg_words.proofs.AskedChanges.{is_given, not_given}
use Rattle.reg_words.proofs.AskedNothing.{no_copy}
use Rattle.reg_words.proofs.changes.copy_of.Goals as goal

pub returns-in-Some : goal.returns-in-Some
returns-in-Some c = (
  refl,
  c.requires.edit,
  c.requires.source,
  c.requires.path,
  is_given (AsksForKey (codes "to-path") (rows_of (found_of c.args.matches.now))) (λ v. v.items) _ c.in_ok-into.field-0 c.in-Some.into c.in-Some.is
      c.in_ok-into.ensures,
)

pub returns-in-None : goal.returns-in-None
returns-in-None c =
    no_copy (rows_of (found_of c.args.matches.now))
    (inr (inr (inr (not_given (AsksForKey (codes "to-path") (rows_of (found_of c.args.matches.now))) (λ v. v.items) _
    c.in_ok-into.field-0 c.in-None.is c.in_ok-into.ensures))))
