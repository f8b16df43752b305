use Rattle.std.proofs.Common.{◌∙◌, ap, codes, sym}
use Rattle.std.specs.Prelude.{option_map}
use Rattle.clap.specs.Words.{found_of}
use Rattle.reg_words.specs.CommandLines.{ignored_asked}
use Rattle.reg_words.specs.FieldLists.{ignored_in}
use Rattle.reg_words.proofs.AskedWords.{first_is}
use Rattle.reg_words.proofs.forms.ignored_of.Goals as goal

pub returns-in-Some : goal.returns-in-Some
returns-in-Some c =
    c.read_ignored.ensures ∙ (ap ignored_in c.as_bytes.ensures.value
    ∙ ap ignored_asked (sym
    (first_is (found_of c.args.matches.now) (codes "ignore") _ c.get_str.ensures ∙ ap (option_map (λ s. s.now)) c.in-Some.is)))

pub returns-in-None : goal.returns-in-None
returns-in-None c =
    ap ignored_asked (sym (first_is (found_of c.args.matches.now) (codes "ignore") _ c.get_str.ensures ∙ ap (option_map (λ s. s.now)) c.in-None.is))
