use Rattle.std.proofs.Common.{◌∙◌, ap, inl, inr, map, rules}
use Rattle.std.specs.Prelude.{Some}
use Rattle.clap.specs.Words.{found_of, rows_of}
use Rattle.reg_words.proofs.AskedWords.{found_there, never_found}
use Rattle.reg_words.proofs.AskedForms.{no_timeline}
use Rattle.reg_words.proofs.asked.timeline_of.Goals as goal

pub timeline_from-requires-clause-files : goal.timeline_from-requires-clause-files
timeline_from-requires-clause-files c = c.requires.files ∙ ap (λ xs. Some (map (λ v. v.now) xs)) (search rules)

pub timeline_from-requires-clause-from : goal.timeline_from-requires-clause-from
timeline_from-requires-clause-from c = found_there _ c.in_ok-from.field-0 c.in-Some.from c.in-Some.is c.in_ok-from.ensures

pub returns : goal.returns
returns c =
    no_timeline (rows_of (found_of c.args.matches.now)) (inr (inr (inl (never_found _ c.in_ok-from.field-0 c.in-None.is c.in_ok-from.ensures))))
