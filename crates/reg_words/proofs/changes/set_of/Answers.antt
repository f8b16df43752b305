use Rattle.std.proofs.Common.{refl}
use Rattle.clap.specs.Words.{found_of, rows_of}
use Rattle.reg_words.proofs.AskedWords.{found_there, never_found}
use Rattle.reg_words.proofs.AskedChanges.{no_set}
use Rattle.reg_words.proofs.changes.set_of.Goals as goal

pub returns-in-Some : goal.returns-in-Some
returns-in-Some c = (
  refl,
  c.requires.path,
  c.requires.name,
  found_there _ c.in_ok-contents.field-0 c.in-Some.contents c.in-Some.is c.in_ok-contents.ensures,
  c.is_set.ensures,
)

pub returns-in-None : goal.returns-in-None
returns-in-None c =
    no_set (rows_of (found_of c.args.matches.now))
    (λ path name contents k n h. never_found _ c.in_ok-contents.field-0 c.in-None.is c.in_ok-contents.ensures contents h)
