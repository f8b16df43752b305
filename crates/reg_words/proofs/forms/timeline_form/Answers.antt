use Rattle.std.proofs.Common.{codes, refl, rules, sym}
use Rattle.clap.specs.Words.{found_of, rows_of}
use Rattle.reg_words.proofs.AskedWords.{given_or}
use Rattle.reg_words.proofs.AskedForms.{lined, tabled, bodied, no_form}
use Rattle.reg_words.proofs.forms.timeline_form.Goals as goal

pub returns-then-eq : goal.returns-then-eq
returns-then-eq c =
    lined (rows_of (found_of c.args.matches.now)) _
    (sym (given_or (found_of c.args.matches.now) (codes "as") (codes "text") c.get_str.result (λ s. s.now) _ _ c.get_str.ensures
    c.unwrap_or-name.ensures refl))
    (search rules)

pub returns-then-eq-2 : goal.returns-then-eq-2
returns-then-eq-2 c =
    tabled (rows_of (found_of c.args.matches.now)) _
    (sym (given_or (found_of c.args.matches.now) (codes "as") (codes "text") c.get_str.result (λ s. s.now) _ _ c.get_str.ensures
    c.unwrap_or-name.ensures refl))
    (search rules)

pub returns-then-eq-3 : goal.returns-then-eq-3
returns-then-eq-3 c =
    bodied (rows_of (found_of c.args.matches.now)) _
    (sym (given_or (found_of c.args.matches.now) (codes "as") (codes "text") c.get_str.result (λ s. s.now) _ _ c.get_str.ensures
    c.unwrap_or-name.ensures refl))
    (search rules)

pub returns : goal.returns
returns c =
    no_form (rows_of (found_of c.args.matches.now)) _
    (sym (given_or (found_of c.args.matches.now) (codes "as") (codes "text") c.get_str.result (λ s. s.now) _ _ c.get_str.ensures
    c.unwrap_or-name.ensures refl))
    (λ e. search (rules, e)) (λ e. search (rules, e)) (λ e. search (rules, e))
