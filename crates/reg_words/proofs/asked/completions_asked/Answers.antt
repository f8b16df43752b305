use Rattle.std.proofs.Common.{refl}
use Rattle.clap.specs.Words.{found_of, rows_of}
use Rattle.reg_words.proofs.AskedWords.{found_there, never_found}
use Rattle.reg_words.proofs.AskedForms.{no_completions}
use Rattle.reg_words.proofs.asked.completions_asked.Goals as goal

pub returns-in-Some : goal.returns-in-Some
returns-in-Some c = (refl, found_there _ c.shell_asked.result c.in-Some.shell c.in-Some.is c.shell_asked.ensures)

pub returns-in-None : goal.returns-in-None
returns-in-None c = no_completions (rows_of (found_of c.args.matches.now)) (never_found _ c.shell_asked.result c.in-None.is c.shell_asked.ensures)
