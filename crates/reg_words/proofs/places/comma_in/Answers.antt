use Rattle.reg_words.proofs.PlaceLemmas.{cut_where}
use Rattle.reg_words.proofs.places.comma_in.Goals as goal

pub returns : goal.returns
returns c = cut_where c.args.text.now c.first_comma.result c.first_comma.ensures
