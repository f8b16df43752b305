use Rattle.std.proofs.Common.{◌∙◌, ap}
use Rattle.std.specs.Prelude.{option_map}
use Rattle.clap.specs.Words.{found_of, rows_of}
use Rattle.reg_words.proofs.AskedWords.{first_is, given_where, lacking_where}
use Rattle.reg_words.proofs.asked.is_given.Goals as goal

pub returns-in-Some : goal.returns-in-Some
returns-in-Some c =
    given_where c.args.name.now (rows_of (found_of c.args.matches.now)) _
    (first_is (found_of c.args.matches.now) c.args.name.now _ c.get_str.ensures ∙ ap (option_map (λ s. s.now)) c.in-Some.is)

pub returns-in-None : goal.returns-in-None
returns-in-None c =
    lacking_where c.args.name.now (rows_of (found_of c.args.matches.now))
    (first_is (found_of c.args.matches.now) c.args.name.now _ c.get_str.ensures ∙ ap (option_map (λ s. s.now)) c.in-None.is)
