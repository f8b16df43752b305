use Rattle.std.proofs.Common.{Bool, sym, ap}
use Rattle.reg_tree_text.proofs.SentTexts.{swapped}
use Rattle.reg_tables.specs.LongListings.{lines_below}
use Rattle.reg_tables.proofs.long_listing.put_keys.Goals as goal

pub returns-then-is_tree : goal.returns-then-is_tree
returns-then-is_tree g c =
    λ p at begin whole left s.
    c.put_below.ensures p at begin whole left
    (swapped begin _ whole _ _ left _ _ s (sym (ap (λ (b : Bool). lines_below c.args.columns b c.args.tree.now.tree p) c.if-is_tree.true)))

pub returns-else-is_tree : goal.returns-else-is_tree
returns-else-is_tree g c =
    λ p at begin whole left s.
    c.put_subkeys.ensures p at begin whole left
    (swapped begin _ whole _ _ left _ _ s (sym (ap (λ (b : Bool). lines_below c.args.columns b c.args.tree.now.tree p) c.if-is_tree.false)))
