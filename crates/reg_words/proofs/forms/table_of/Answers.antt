use Rattle.std.proofs.Common.{◌∙◌, ap, rules}
use Rattle.std.specs.Prelude.{Some}
use Rattle.clap.specs.Words.{found_of, rows_of}
use Rattle.reg_words.proofs.AskedForms.{other_form}
use Rattle.reg_words.proofs.forms.table_of.Goals as goal

pub returns-then-eq : goal.returns-then-eq
returns-then-eq c = (c.requires.form ∙ ap Some (search rules), c.requires.plain, c.requires.encoded)

pub returns-then-eq-2 : goal.returns-then-eq-2
returns-then-eq-2 c = (c.requires.form ∙ ap Some (search rules), c.requires.plain, c.requires.encoded)

pub returns-then-eq-3 : goal.returns-then-eq-3
returns-then-eq-3 c = (c.requires.form ∙ ap Some (search rules), c.requires.plain, c.requires.encoded)

pub returns-then-eq-4 : goal.returns-then-eq-4
returns-then-eq-4 c = (c.requires.form ∙ ap Some (search rules), c.requires.plain, c.requires.encoded)

pub returns : goal.returns
returns c =
    other_form (rows_of (found_of c.args.matches.now)) c.args.name.now c.requires.form c.requires.table (λ e. search (rules, e))
    (λ e. search (rules, e)) (λ e. search (rules, e)) (λ e. search (rules, e))
