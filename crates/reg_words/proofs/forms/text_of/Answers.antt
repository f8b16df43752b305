use Rattle.std.proofs.Common.{◌∙◌, ap, codes, inl}
use Rattle.std.specs.Prelude.{option_map}
use Rattle.clap.specs.Words.{found_of, rows_of}
use Rattle.reg_words.proofs.AskedWords.{first_is}
use Rattle.reg_words.proofs.AskedForms.{no_part}
use Rattle.reg_words.proofs.forms.text_of.Goals as goal

pub returns-in-Some : goal.returns-in-Some
returns-in-Some c =
    no_part (rows_of (found_of c.args.matches.now)) (codes "reg") _ c.requires
    (inl (first_is (found_of c.args.matches.now) (codes "path") _ c.get_str.ensures ∙ ap (option_map (λ s. s.now)) c.in-Some.is))

pub text_of_all-requires-clause-all : goal.text_of_all-requires-clause-all
text_of_all-requires-clause-all c =
    first_is (found_of c.args.matches.now) (codes "path") _ c.get_str.ensures ∙ ap (option_map (λ s. s.now)) c.in-None.is
