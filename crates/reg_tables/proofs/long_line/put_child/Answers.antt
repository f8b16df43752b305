use Rattle.std.specs.FinMap.{get}
use Rattle.reg_tree.proofs.Invariant.CellReadings.{some_of}
use Rattle.reg_tree_text.proofs.SentTexts.{swapped}
use Rattle.reg_tables.proofs.LongLines.{child-same}
use Rattle.reg_tables.proofs.long_line.put_child.Goals as goal

pub returns : goal.returns
returns g c =
    λ p at begin whole left s.
    (let k = some_of (get c.args.tree.now.tree p) (c.name-name.ensures.key p at) in
    c.put_key_line.ensures p at k.0 k.1 begin whole left
    (swapped begin _ whole _ _ left _ _ s (child-same c.args.columns _ k.0 _ k.1 (c.name-name.ensures.told p at k.0 k.1))))
