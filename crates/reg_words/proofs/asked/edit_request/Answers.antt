use Rattle.std.proofs.Common.{◌∙◌, ap, inl}
use Rattle.std.specs.Prelude.{option_map}
use Rattle.clap.specs.Words.{found_of, rows_of}
use Rattle.reg_words.proofs.AskedWords.{first_is}
use Rattle.reg_words.proofs.AskedNothing.{no_saving}
use Rattle.reg_words.proofs.asked.edit_request.Goals as goal

pub edit_of-requires : goal.edit_of-requires
edit_of-requires c =
    first_is (found_of c.args.matches.now) c.args.word.now _ c.get_str.ensures ∙ ap (option_map (λ s. s.now)) c.in-Some.is

pub returns-in-None : goal.returns-in-None
returns-in-None c =
    no_saving c.args.word.now (rows_of (found_of c.args.matches.now))
    (inl (first_is (found_of c.args.matches.now) c.args.word.now _ c.get_str.ensures ∙ ap (option_map (λ s. s.now)) c.in-None.is))
