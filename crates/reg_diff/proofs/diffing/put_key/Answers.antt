use Rattle.std.proofs.Common.{[]}
use Rattle.reg_heap.specs.Edits.{folded_path}
use Rattle.reg_tree_text.proofs.SentTexts.{swapped}
use Rattle.reg_tree.proofs.Invariant.CellReadings.{some_of}
use Rattle.reg_diff.proofs.SideSteps.{resolved-none, resolved-some, alone-said, both-said}
use Rattle.reg_diff.proofs.diffing.put_key.Goals as goal

pub returns-in_default : goal.returns-in_default
returns-in_default g c =
    λ p at key here begin whole left s.
    (let none = resolved-none _ (folded_path c.args.path.now) _ (c.resolve.ensures.found [] c.root.ensures.at) c.in_default.is in
    c.put_whole_key.ensures p at key here begin whole left
    (swapped begin _ whole _ _ left _ _ s (alone-said c.args.ignored c.args.side c.args.path.now key _ none)))

pub returns-in-Old : goal.returns-in-Old
returns-in-Old g c =
    λ p at key here begin whole left s.
    (let r = resolved-some _ (folded_path c.args.path.now) _ _ (c.resolve.ensures.found [] c.root.ensures.at) c.in-Some.is in
    let other = some_of _ r.1 in
    c.put_key_changes.ensures p (folded_path c.args.path.now) at r.0 key other.0 here other.1 begin whole left
    (swapped begin _ whole _ _ left _ _ s (both-said c.args.ignored c.args.side c.args.path.now key other.0 _ c.in-Old.is other.1)))
