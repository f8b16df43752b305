use Rattle.std.proofs.Common.{◌∙◌, ap, codes, inl, inr}
use Rattle.std.specs.Prelude.{option_map}
use Rattle.clap.specs.Words.{found_of, rows_of}
use Rattle.reg_words.proofs.AskedWords.{first_is}
use Rattle.reg_words.proofs.AskedNothing.{no_find}
use Rattle.reg_words.proofs.asked.find_in.Goals as goal

pub find_of-requires-clause-pattern : goal.find_of-requires-clause-pattern
find_of-requires-clause-pattern c = first_is (found_of c.args.matches.now) (codes "pattern") _ c.get_str.ensures
    ∙ ap (option_map (λ s. s.now)) c.in-Some.is

pub returns-in-None : goal.returns-in-None
returns-in-None c =
    no_find (rows_of (found_of c.args.matches.now))
    (inr (inl (first_is (found_of c.args.matches.now) (codes "pattern") _ c.get_str.ensures ∙ ap (option_map (λ s. s.now)) c.in-None.is)))
