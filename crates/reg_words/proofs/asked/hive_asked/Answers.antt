use Rattle.std.proofs.Common.{◌∙◌, ap, codes}
use Rattle.std.specs.Prelude.{option_map}
use Rattle.clap.specs.Words.{found_of}
use Rattle.reg_words.proofs.AskedWords.{first_is}
use Rattle.reg_words.proofs.asked.hive_asked.Goals as goal

pub returns-in-Some : goal.returns-in-Some
returns-in-Some c =
    (first_is (found_of c.args.matches.now) (codes "file") _ c.get_str.ensures ∙ ap (option_map (λ s. s.now)) c.in-Some.is, c.is_set.ensures)

pub returns-in-None : goal.returns-in-None
returns-in-None c = first_is (found_of c.args.matches.now) (codes "file") _ c.get_str.ensures ∙ ap (option_map (λ s. s.now)) c.in-None.is
