use Rattle.clap.specs.Words.{found_of, rows_of}
use Rattle.reg_words.proofs.AskedWords.{found_there, never_found}
use Rattle.reg_words.proofs.AskedNames.{none_asked}
use Rattle.reg_words.proofs.changes.change_of.Goals as goal

pub returns-in-Some : goal.returns-in-Some
returns-in-Some c = (found_there _ c.edit_request.result c.in-Some.edit c.in-Some.is c.edit_request.ensures, c.requires.change)

pub returns-in-None : goal.returns-in-None
returns-in-None c =
    none_asked c.args.name.now (rows_of (found_of c.args.matches.now)) c.requires.other
    (λ edit change h. never_found _ c.edit_request.result c.in-None.is c.edit_request.ensures edit h.0)
