use Rattle.std.proofs.Common.{[], ◌∙◌, ap, codes, map}
use Rattle.std.specs.Prelude.{option_map, unwrap_or}
use Rattle.std.proofs.lemmas.Result.{IfOk-weaker}
use Rattle.clap.specs.Words.{found_of, rows_of}
use Rattle.reg_words.proofs.AskedWords.{all_is}
use Rattle.reg_words.proofs.AskedChanges.{contents_found}
use Rattle.reg_words.proofs.changes.contents_of.Goals as goal

pub returns-in-Some : goal.returns-in-Some
returns-in-Some c =
    IfOk-weaker c.read_value.result _ _
    (λ v read. contents_found (rows_of (found_of c.args.matches.now)) c.args.kind.now _ v c.requires
    (ap (λ o. unwrap_or o []) (all_is (found_of c.args.matches.now) (codes "data") _ c.get_strs.ensures
    ∙ ap (option_map (λ s. map (λ v. v.now) s.now)) c.in-Some.is)) read)
    c.read_value.ensures

pub returns-in-None : goal.returns-in-None
returns-in-None c =
    IfOk-weaker c.read_value-in-None.result _ _
    (λ v read. contents_found (rows_of (found_of c.args.matches.now)) c.args.kind.now _ v c.requires
    (ap (λ o. unwrap_or o []) (all_is (found_of c.args.matches.now) (codes "data") _ c.get_strs.ensures
    ∙ ap (option_map (λ s. map (λ v. v.now) s.now)) c.in-None.is)) read)
    c.read_value-in-None.ensures
