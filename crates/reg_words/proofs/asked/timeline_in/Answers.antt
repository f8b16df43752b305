use Rattle.std.proofs.Common.{inl, inr}
use Rattle.clap.specs.Words.{found_of, rows_of}
use Rattle.reg_words.proofs.AskedWords.{found_there, never_found}
use Rattle.reg_words.proofs.AskedForms.{no_timeline}
use Rattle.reg_words.proofs.asked.timeline_in.Goals as goal

pub timeline_of-requires-clause-form : goal.timeline_of-requires-clause-form
timeline_of-requires-clause-form c = found_there _ c.timeline_form.result c.in-Some.form c.in-Some.is c.timeline_form.ensures

pub returns-in-None : goal.returns-in-None
returns-in-None c =
    no_timeline (rows_of (found_of c.args.matches.now)) (inr (inl (never_found _ c.timeline_form.result c.in-None.is c.timeline_form.ensures)))
