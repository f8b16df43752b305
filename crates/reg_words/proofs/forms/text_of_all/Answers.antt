use Rattle.std.proofs.Common.{◌∙◌, ap, codes, inr}
use Rattle.std.specs.Prelude.{option_map}
use Rattle.clap.specs.Words.{found_of, rows_of}
use Rattle.reg_words.proofs.AskedWords.{first_is}
use Rattle.reg_words.proofs.AskedForms.{no_part}
use Rattle.reg_words.proofs.forms.text_of_all.Goals as goal

pub returns-in-Some : goal.returns-in-Some
returns-in-Some c =
    no_part (rows_of (found_of c.args.matches.now)) (codes "reg") _ c.requires.form
    (inr (first_is (found_of c.args.matches.now) (codes "ignore") _ c.get_str.ensures ∙ ap (option_map (λ s. s.now)) c.in-Some.is))

pub returns-in-None : goal.returns-in-None
returns-in-None c = (
  c.requires.form,
  c.requires.all,
  first_is (found_of c.args.matches.now) (codes "ignore") _ c.get_str.ensures ∙ ap (option_map (λ s. s.now)) c.in-None.is,
  c.is_set.ensures,
)
