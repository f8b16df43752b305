use Rattle.std.proofs.Common.{◌∙◌, ap, codes, inl}
use Rattle.std.specs.Prelude.{option_map}
use Rattle.clap.specs.Words.{found_of, rows_of}
use Rattle.reg_words.proofs.AskedWords.{first_is}
use Rattle.reg_words.proofs.AskedNothing.{no_diff}
use Rattle.reg_words.proofs.asked.diff_asked.Goals as goal

pub diff_in-requires : goal.diff_in-requires
diff_in-requires c = first_is (found_of c.args.matches.now) (codes "old") _ c.get_str.ensures ∙ ap (option_map (λ s. s.now)) c.in-Some.is

pub returns-in-None : goal.returns-in-None
returns-in-None c =
    no_diff (rows_of (found_of c.args.matches.now))
    (inl (first_is (found_of c.args.matches.now) (codes "old") _ c.get_str.ensures ∙ ap (option_map (λ s. s.now)) c.in-None.is))
