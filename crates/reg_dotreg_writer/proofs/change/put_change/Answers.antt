use Rattle.std.proofs.Common.{ap, []}
use Rattle.std.specs.Prelude.{is_some}
use Rattle.std.specs.FinMap.{get}
use Rattle.reg_heap.specs.Edits.{folded_path, values_of}
use Rattle.reg_tree_text.proofs.SentTexts.{ends, swapped, stops_full, exits}
use Rattle.reg_dotreg_writer.proofs.ToldValues.{resolved-same}
use Rattle.reg_dotreg_writer.proofs.ToldChanges.{quiet-said, block-said}
use Rattle.reg_dotreg_writer.proofs.change.put_change.Goals as goal

pub is_changed-requires-clause-found : goal.is_changed-requires-clause-found
is_changed-requires-clause-found g c = (folded_path c.args.path.now, c.resolve-found.ensures.found [] c.root.ensures.at)

pub returns-in_err-is_changed : goal.returns-in_err-is_changed
returns-in_err-is_changed g c =
    λ p at key here begin whole left s. exits _ _ _ _ c.from_residual.ensures.1 (stops_full begin _ whole _ _ _ s)

pub returns-then-not-branch : goal.returns-then-not-branch
returns-then-not-branch g c =
    λ p at key here begin whole left s.
    (let q = folded_path c.args.path.now in
    let r = c.resolve-found.ensures.found [] c.root.ensures.at in
    ends begin _ whole _ left _ _ s
    (quiet-said c.args.root.now c.args.path.now c.args.side key (get c.args.other.now.tree q) (is_some c.resolve-found.result) _
    (resolved-same _ q _ r) (ap values_of here) c.args.is_utf8 _ (c.in_ok-is_changed.ensures p q at r) c.if-not-branch.true))

pub put_block-requires-clause-found : goal.put_block-requires-clause-found
put_block-requires-clause-found g c = (folded_path c.args.path.now, c.resolve-found.ensures.found [] c.root.ensures.at)

pub returns : goal.returns
returns g c =
    λ p at key here begin whole left s.
    (let q = folded_path c.args.path.now in
    let r = c.resolve-found.ensures.found [] c.root.ensures.at in
    c.put_block.ensures p q at r begin whole left
    (swapped begin _ whole _ _ left _ _ s
    (block-said c.args.root.now c.args.path.now c.args.side key (get c.args.other.now.tree q) (is_some c.resolve-found.result) _
    (resolved-same _ q _ r) (ap values_of here) c.args.is_utf8 _ (c.in_ok-is_changed.ensures p q at r) c.if-not-branch.false)))
