use Rattle.std.proofs.Common.{◌∙◌, ap, rules}
use Rattle.std.specs.Prelude.{Some}
use Rattle.clap.specs.Words.{found_of, rows_of}
use Rattle.reg_words.proofs.AskedForms.{no_text}
use Rattle.reg_words.proofs.forms.text_asked.Goals as goal

pub text_of-requires : goal.text_of-requires
text_of-requires c = c.requires ∙ ap Some (search rules)

pub returns : goal.returns
returns c = no_text (rows_of (found_of c.args.matches.now)) c.args.name.now c.requires (λ e. search (rules, e))
