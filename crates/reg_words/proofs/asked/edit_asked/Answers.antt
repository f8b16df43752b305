use Rattle.std.proofs.Common.{refl}
use Rattle.clap.specs.Words.{found_of, rows_of}
use Rattle.reg_words.proofs.AskedNothing.{no_edit}
use Rattle.reg_words.proofs.AskedWords.{found_there, never_found}
use Rattle.reg_words.proofs.asked.edit_asked.Goals as goal

pub returns-in-Some : goal.returns-in-Some
returns-in-Some c = (refl, found_there _ c.edit_request.result c.in-Some.edit c.in-Some.is c.edit_request.ensures, c.is_set.ensures)

pub returns-in-None : goal.returns-in-None
returns-in-None c = no_edit (rows_of (found_of c.args.matches.now)) (never_found _ c.edit_request.result c.in-None.is c.edit_request.ensures)
