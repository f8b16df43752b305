use Rattle.std.proofs.Common.{[], ◌∙◌, ap, codes, refl}
use Rattle.std.proofs.lemmas.Result.{IfOk-weaker}
use Rattle.clap.specs.Words.{found_of}
use Rattle.reg_words.specs.ChangeWords.{path_in}
use Rattle.reg_words.proofs.AskedWords.{given_or}
use Rattle.reg_words.proofs.asked.path_asked.Goals as goal

pub returns : goal.returns
returns c =
    let word = given_or (found_of c.args.matches.now) (codes "path") [] c.get_str.result (λ s. s.now) _ _ c.get_str.ensures c.unwrap_or-word.ensures
    refl in
    IfOk-weaker c.read_path.result _ _ (λ path is. (c.is_set.result, c.is_set.ensures, is ∙ ap (path_in c.is_set.result) word)) c.read_path.ensures
