use Rattle.std.proofs.Common.{◌∙◌, ap, rules}
use Rattle.std.specs.Prelude.{option_map}
use Rattle.clap.specs.Words.{found_of, rows_of}
use Rattle.reg_words.proofs.AskedWords.{first_is, set_when, unset_when}
use Rattle.reg_words.proofs.asked.is_set.Goals as goal

pub returns-in-Some : goal.returns-in-Some
returns-in-Some c =
    set_when c.args.name.now (rows_of (found_of c.args.matches.now)) c.in-Some.text.now c.eq.result
    (first_is (found_of c.args.matches.now) c.args.name.now _ c.get_str.ensures ∙ ap (option_map (λ s. s.now)) c.in-Some.is)
    (λ t. search (rules, t)) (λ e. search (rules, e))

pub returns-in-None : goal.returns-in-None
returns-in-None c =
    unset_when c.args.name.now (rows_of (found_of c.args.matches.now))
    (first_is (found_of c.args.matches.now) c.args.name.now _ c.get_str.ensures ∙ ap (option_map (λ s. s.now)) c.in-None.is)
