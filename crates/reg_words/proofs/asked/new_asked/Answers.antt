use Rattle.std.proofs.Common.{◌∙◌, ap, codes, refl}
use Rattle.std.specs.Prelude.{option_map}
use Rattle.clap.specs.Words.{found_of, rows_of}
use Rattle.reg_words.proofs.AskedWords.{first_is, given_or}
use Rattle.reg_words.proofs.AskedNothing.{no_new}
use Rattle.reg_words.proofs.asked.new_asked.Goals as goal

pub returns-in-Some : goal.returns-in-Some
returns-in-Some c = (
  refl,
  first_is (found_of c.args.matches.now) (codes "file") _ c.get_str.ensures ∙ ap (option_map (λ s. s.now)) c.in-Some.is,
  given_or (found_of c.args.matches.now) (codes "name") (codes "ROOT") c.get_str-in-Some.result (λ s. s.now) _ _ c.get_str-in-Some.ensures
      c.unwrap_or.ensures refl,
)

pub returns-in-None : goal.returns-in-None
returns-in-None c =
    no_new (rows_of (found_of c.args.matches.now))
    (first_is (found_of c.args.matches.now) (codes "file") _ c.get_str.ensures ∙ ap (option_map (λ s. s.now)) c.in-None.is)
