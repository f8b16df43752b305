use Rattle.std.proofs.Common.{◌∙◌, ap}
use Rattle.std.specs.Prelude.{option_map}
use Rattle.clap.specs.Words.{found_of}
use Rattle.reg_words.proofs.AskedWords.{first_is}
use Rattle.reg_words.proofs.changes.path_asked.Goals as goal

pub returns-in_ok-read_path-in-Some : goal.returns-in_ok-read_path-in-Some
returns-in_ok-read_path-in-Some c = (
  c.in-Some.word.now,
  first_is (found_of c.args.matches.now) c.args.name.now _ c.get_str.ensures ∙ ap (option_map (λ s. s.now)) c.in-Some.is,
  (c.is_set.result, c.is_set.ensures, c.in_ok-read_path-in-Some.ensures),
)

pub returns-in-None : goal.returns-in-None
returns-in-None c = first_is (found_of c.args.matches.now) c.args.name.now _ c.get_str.ensures ∙ ap (option_map (λ s. s.now)) c.in-None.is
