use Rattle.std.proofs.Common.{◌∙◌, ap, rules}
use Rattle.std.specs.Prelude.{Some}
use Rattle.clap.specs.Words.{found_of, rows_of}
use Rattle.reg_words.proofs.AskedForms.{other_shell}
use Rattle.reg_words.proofs.forms.shell_of.Goals as goal

pub returns-then-eq : goal.returns-then-eq
returns-then-eq c = c.requires ∙ ap Some (search rules)

pub returns-then-eq-2 : goal.returns-then-eq-2
returns-then-eq-2 c = c.requires ∙ ap Some (search rules)

pub returns-then-eq-3 : goal.returns-then-eq-3
returns-then-eq-3 c = c.requires ∙ ap Some (search rules)

pub returns : goal.returns
returns c =
    other_shell (rows_of (found_of c.args.matches.now)) c.args.name.now c.requires (λ e. search (rules, e)) (λ e. search (rules, e))
    (λ e. search (rules, e))
