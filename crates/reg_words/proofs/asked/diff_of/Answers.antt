use Rattle.std.proofs.Common.{◌∙◌, ap, codes, refl, inl, inr}
use Rattle.std.specs.Prelude.{option_map}
use Rattle.clap.specs.Words.{found_of, rows_of}
use Rattle.reg_words.proofs.AskedWords.{first_is}
use Rattle.reg_words.proofs.AskedNothing.{no_diff}
use Rattle.reg_words.proofs.asked.diff_of.Goals as goal

pub returns-in-Some : goal.returns-in-Some
returns-in-Some c = (
  refl,
  c.requires.old,
  first_is (found_of c.args.matches.now) (codes "new") _ c.get_str.ensures ∙ ap (option_map (λ s. s.now)) c.in-Some.is,
  c.is_set.ensures,
  c.requires.form,
)

pub returns-in-None : goal.returns-in-None
returns-in-None c =
    no_diff (rows_of (found_of c.args.matches.now))
    (inr (inl (first_is (found_of c.args.matches.now) (codes "new") _ c.get_str.ensures ∙ ap (option_map (λ s. s.now)) c.in-None.is)))
