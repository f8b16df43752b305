use Rattle.std.proofs.Common.{◌∙◌, ap, codes, refl}
use Rattle.std.specs.Prelude.{Some, None, option_map}
use Rattle.clap.specs.Words.{found_of, rows_of}
use Rattle.reg_words.specs.PlaceLists.{places_in}
use Rattle.reg_words.proofs.AskedWords.{first_is}
use Rattle.reg_words.proofs.AskedNothing.{places_found}
use Rattle.reg_words.proofs.asked.places_asked.Goals as goal

pub returns-in-Some : goal.returns-in-Some
returns-in-Some c =
    places_found (rows_of (found_of c.args.matches.now)) (Some c.in-Some.text.now) c.read_places.result
    (first_is (found_of c.args.matches.now) (codes "in") _ c.get_str.ensures ∙ ap (option_map (λ s. s.now)) c.in-Some.is)
    (c.read_places.ensures ∙ ap places_in c.as_bytes.ensures.value)

pub returns-in-None : goal.returns-in-None
returns-in-None c =
    places_found (rows_of (found_of c.args.matches.now)) None _
    (first_is (found_of c.args.matches.now) (codes "in") _ c.get_str.ensures ∙ ap (option_map (λ s. s.now)) c.in-None.is) refl
