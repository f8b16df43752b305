use Rattle.std.proofs.Common.{[], ◌∙◌, ap, codes, refl}
use Rattle.std.proofs.lemmas.Result.{IfOk-weaker}
use Rattle.clap.specs.Words.{found_of}
use Rattle.reg_words.specs.ChangeWords.{name_in}
use Rattle.reg_words.proofs.AskedWords.{given_or}
use Rattle.reg_words.proofs.asked.value_asked.Goals as goal

pub returns : goal.returns
returns c =
    let word = given_or (found_of c.args.matches.now) (codes "value") [] c.get_str.result (λ s. s.now) _ _ c.get_str.ensures c.unwrap_or-word.ensures
    refl in
    IfOk-weaker c.read_name.result _ _ (λ name is. is ∙ ap name_in word) c.read_name.ensures
