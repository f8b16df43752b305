use Rattle.std.proofs.Common.{inr}
use Rattle.clap.specs.Words.{found_of, rows_of}
use Rattle.reg_words.proofs.AskedNothing.{no_diff}
use Rattle.reg_words.proofs.AskedWords.{found_there, never_found}
use Rattle.reg_words.proofs.asked.diff_in.Goals as goal

pub diff_of-requires-clause-form : goal.diff_of-requires-clause-form
diff_of-requires-clause-form c =
    found_there _ c.in_ok-form.field-0 c.in-Some.form c.in-Some.is c.in_ok-form.ensures

pub returns-in-None : goal.returns-in-None
returns-in-None c =
    no_diff (rows_of (found_of c.args.matches.now))
    (inr (inr (never_found _ c.in_ok-form.field-0 c.in-None.is c.in_ok-form.ensures)))
