use Rattle.std.proofs.Common.{◌∙◌, ap, codes}
use Rattle.std.specs.Prelude.{option_map}
use Rattle.clap.specs.Words.{found_of}
use Rattle.reg_words.proofs.AskedWords.{first_is}
use Rattle.reg_words.proofs.forms.differences_asked.Goals as goal

pub text_asked-requires : goal.text_asked-requires
text_asked-requires c = first_is (found_of c.args.matches.now) (codes "as") _ c.get_str.ensures ∙ ap (option_map (λ s. s.now)) c.in-Some.is

pub lines_asked-requires : goal.lines_asked-requires
lines_asked-requires c = first_is (found_of c.args.matches.now) (codes "as") _ c.get_str.ensures ∙ ap (option_map (λ s. s.now)) c.in-None.is
