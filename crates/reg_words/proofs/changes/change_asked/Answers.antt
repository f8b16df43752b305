use Rattle.clap.specs.Words.{found_of, rows_of}
use Rattle.reg_words.proofs.AskedWords.{found_there, never_found}
use Rattle.reg_words.proofs.AskedNames.{none_asked}
use Rattle.reg_words.proofs.changes.change_asked.Goals as goal

pub change_of-requires-clause-change : goal.change_of-requires-clause-change
change_of-requires-clause-change c =
    found_there _ c.in_ok-change.field-0 c.in-Some.change c.in-Some.is c.in_ok-change.ensures

pub returns-in-None : goal.returns-in-None
returns-in-None c =
    none_asked c.args.name.now (rows_of (found_of c.args.matches.now)) c.requires
    (λ edit change h. never_found _ c.in_ok-change.field-0 c.in-None.is c.in_ok-change.ensures change h.1)
