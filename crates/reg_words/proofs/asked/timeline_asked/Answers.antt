use Rattle.std.proofs.Common.{◌∙◌, ap, codes, inl, map}
use Rattle.std.specs.Prelude.{option_map}
use Rattle.clap.specs.Words.{found_of, rows_of}
use Rattle.reg_words.proofs.AskedWords.{all_is}
use Rattle.reg_words.proofs.AskedForms.{no_timeline}
use Rattle.reg_words.proofs.asked.timeline_asked.Goals as goal

pub timeline_in-requires : goal.timeline_in-requires
timeline_in-requires c =
    all_is (found_of c.args.matches.now) (codes "files") _ c.get_strs.ensures ∙ ap (option_map (λ s. map (λ v. v.now) s.now)) c.in-Some.is

pub returns-in-None : goal.returns-in-None
returns-in-None c =
    no_timeline (rows_of (found_of c.args.matches.now))
    (inl (all_is (found_of c.args.matches.now) (codes "files") _ c.get_strs.ensures ∙ ap (option_map (λ s. map (λ v. v.now) s.now)) c.in-None.is))
