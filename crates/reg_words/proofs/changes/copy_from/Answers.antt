use Rattle.std.proofs.Common.{inl, inr}
use Rattle.clap.specs.Words.{found_of, rows_of}
use Rattle.reg_words.proofs.AskedNothing.{no_copy}
use Rattle.reg_words.proofs.AskedWords.{found_there, never_found}
use Rattle.reg_words.proofs.changes.copy_from.Goals as goal

pub copy_in-requires-clause-edit : goal.copy_in-requires-clause-edit
copy_in-requires-clause-edit c = found_there _ c.edit_request.result c.in-Some.edit c.in-Some.is c.edit_request.ensures

pub returns-in-None : goal.returns-in-None
returns-in-None c =
    no_copy (rows_of (found_of c.args.matches.now)) (inr (inl (never_found _ c.edit_request.result c.in-None.is c.edit_request.ensures)))
