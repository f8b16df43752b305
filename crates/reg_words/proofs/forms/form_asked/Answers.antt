use Rattle.std.proofs.Common.{◌∙◌, ap, codes}
use Rattle.std.specs.Prelude.{option_map}
use Rattle.clap.specs.Words.{found_of, rows_of}
use Rattle.reg_words.proofs.AskedWords.{first_is}
use Rattle.reg_words.proofs.AskedForms.{no_name}
use Rattle.reg_words.proofs.forms.form_asked.Goals as goal

pub form_of-requires : goal.form_of-requires
form_of-requires c = first_is (found_of c.args.matches.now) (codes "as") _ c.get_str.ensures ∙ ap (option_map (λ s. s.now)) c.in-Some.is

pub returns-in-None : goal.returns-in-None
returns-in-None c =
    no_name (rows_of (found_of c.args.matches.now))
    (first_is (found_of c.args.matches.now) (codes "as") _ c.get_str.ensures ∙ ap (option_map (λ s. s.now)) c.in-None.is)
