use Rattle.std.proofs.Common.{refl, inr}
use Rattle.clap.specs.Words.{found_of, rows_of}
use Rattle.reg_words.proofs.AskedNothing.{no_find}
use Rattle.reg_words.proofs.AskedWords.{found_there, never_found}
use Rattle.reg_words.proofs.asked.find_of.Goals as goal

pub returns-in-Some : goal.returns-in-Some
returns-in-Some c = (
  refl,
  c.requires.hive,
  c.requires.pattern,
  found_there _ c.places_asked.result c.in-Some.places c.in-Some.is c.places_asked.ensures,
  c.is_set.ensures,
)

pub returns-in-None : goal.returns-in-None
returns-in-None c =
    no_find (rows_of (found_of c.args.matches.now)) (inr (inr (never_found _ c.places_asked.result c.in-None.is c.places_asked.ensures)))
