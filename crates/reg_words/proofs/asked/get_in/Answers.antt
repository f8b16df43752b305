use Rattle.std.proofs.Common.{refl, inr}
use Rattle.clap.specs.Words.{found_of, rows_of}
use Rattle.reg_words.proofs.AskedNothing.{no_get}
use Rattle.reg_words.proofs.AskedWords.{found_there, never_found}
use Rattle.reg_words.proofs.asked.get_in.Goals as goal

pub returns-in_ok-value_asked-in-Some : goal.returns-in_ok-value_asked-in-Some
returns-in_ok-value_asked-in-Some c = (
  refl,
  c.requires,
  c.in_ok-path_asked-in-Some.ensures,
  c.in_ok-value_asked-in-Some.ensures,
  found_there _ c.data_asked.result c.in-Some.form c.in-Some.is c.data_asked.ensures,
  c.is_set.ensures,
)

pub returns-in-None : goal.returns-in-None
returns-in-None c = no_get (rows_of (found_of c.args.matches.now)) (inr (never_found _ c.data_asked.result c.in-None.is c.data_asked.ensures))
