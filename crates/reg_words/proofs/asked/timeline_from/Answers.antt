use Rattle.std.proofs.Common.{refl, inr}
use Rattle.clap.specs.Words.{found_of, rows_of}
use Rattle.reg_words.proofs.AskedWords.{found_there, never_found}
use Rattle.reg_words.proofs.AskedForms.{no_timeline}
use Rattle.reg_words.proofs.asked.timeline_from.Goals as goal

pub returns-in-Some : goal.returns-in-Some
returns-in-Some c = (
  refl,
  c.requires.files,
  c.is_set.ensures,
  c.requires.from,
  found_there _ c.in_ok-to.field-0 c.in-Some.to c.in-Some.is c.in_ok-to.ensures,
  c.requires.form,
)

pub returns : goal.returns
returns c =
    no_timeline (rows_of (found_of c.args.matches.now)) (inr (inr (inr (never_found _ c.in_ok-to.field-0 c.in-None.is c.in_ok-to.ensures))))
