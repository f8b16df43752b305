use Rattle.std.proofs.Common.{◌∙◌, ap, inl, refl}
use Rattle.std.proofs.lemmas.Result.{IfOk-weaker}
use Rattle.std.specs.Prelude.{option_map}
use Rattle.clap.specs.Words.{found_of, rows_of}
use Rattle.reg_words.proofs.AskedWords.{first_is}
use Rattle.reg_words.proofs.AskedForms.{moment_given}
use Rattle.reg_words.proofs.forms.moment_asked.Goals as goal

pub returns-in-Some : goal.returns-in-Some
returns-in-Some c =
    IfOk-weaker c.read_moment.result _ _ (λ moment tells. moment_given c.args.name.now c.args.other (rows_of (found_of c.args.matches.now)) _ moment
    (first_is (found_of c.args.matches.now) c.args.name.now _ c.get_str.ensures ∙ ap (option_map (λ s. s.now)) c.in-Some.is) tells)
    c.read_moment.ensures

pub returns-in-None : goal.returns-in-None
returns-in-None c =
    inl (first_is (found_of c.args.matches.now) c.args.name.now _ c.get_str.ensures ∙ ap (option_map (λ s. s.now)) c.in-None.is, refl)
