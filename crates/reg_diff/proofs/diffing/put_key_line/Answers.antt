use Rattle.std.proofs.Common.{ap, ◌++◌, List, ℕ}
use Rattle.std.specs.Prelude.{codes}
use Rattle.reg_text.specs.Texts.{line_feed, escaped}
use Rattle.reg_tree_text.proofs.SentTexts.{swapped}
use Rattle.reg_diff.specs.Differences.{key_line}
use Rattle.reg_diff.proofs.diffing.put_key_line.Goals as goal

pub returns : goal.returns
unfolding key_line
returns g c =
    λ begin whole left s.
    c.put_line.ensures begin whole left
    (swapped begin _ whole _ _ left _ _ s
    (ap (λ (w : List ℕ). w ++ (codes " key =" ++ (escaped c.args.path.now ++ line_feed))) c.word.ensures))
