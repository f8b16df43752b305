use Rattle.std.proofs.Common.{refl, inr}
use Rattle.clap.specs.Words.{found_of, rows_of}
use Rattle.reg_words.proofs.AskedNothing.{no_export}
use Rattle.reg_words.proofs.AskedWords.{found_there, never_found}
use Rattle.reg_words.proofs.asked.export_of.Goals as goal

pub returns-in-Some : goal.returns-in-Some
returns-in-Some c =
    (refl, c.requires.hive, c.requires.path, found_there _ c.form_asked.result c.in-Some.form c.in-Some.is c.form_asked.ensures)

pub returns-in-None : goal.returns-in-None
returns-in-None c =
    no_export (rows_of (found_of c.args.matches.now)) (inr (never_found _ c.form_asked.result c.in-None.is c.form_asked.ensures))
