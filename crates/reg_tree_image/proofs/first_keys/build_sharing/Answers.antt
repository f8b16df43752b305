use Rattle.std.proofs.Common.{sym, subst}
use Rattle.std.specs.Cow.{cow_slice_items}
use Rattle.reg_heap.specs.Edits.{child_path}
use Rattle.reg_tree_image.specs.CrowdedBins.{CrowdsInRoom}
use Rattle.reg_tree_image.specs.Internal.BegunKeys.{IsLack, told_as}
use Rattle.reg_tree_image.proofs.KeyStacks.StackEnds.{if_err}
use Rattle.reg_tree_image.proofs.Readers.SharedDescriptors.{like-first, like-met, first-still, first-then}
use Rattle.reg_tree_image.proofs.first_keys.build_sharing.Goals as goal

pub build_below-requires-clause-like : goal.build_below-requires-clause-like
build_below-requires-clause-like c =
    let r = c.requires.firsts in
    like-first r.0 _ c.args.firsts.now r.1 _ _ r.2 c.find-like.result (like-met c.args.met _ c.find-like.result c.find-like.ensures)

pub returns-then-is_some-clause-firsts : goal.returns-then-is_some-clause-firsts
returns-then-is_some-clause-firsts c heap are held =
    let above = c.requires.above in
    first-still heap c.args.tree.now _ c.in_ok-node.ensures.nodes (child_path above.0 (cow_slice_items c.args.named.now.name)) _
    (c.requires.free above.0 above.1) (c.in_ok-node.ensures.ok above.0 above.1).0 c.args.firsts.now are

pub returns-in_err-note-clause-err : goal.returns-in_err-note-clause-err
returns-in_err-note-clause-err c p is =
    let crowds = IsLack (CrowdsInRoom c.args.building.ahead c.args.tree.now p (told_as c.args.named.now c.args.parts.now)) in
    if_err crowds c.from_residual-in_err-note.result _ c.from_residual-in_err-note.ensures.1 (subst crowds (sym c.in_err-note.ensures.err) tt)

pub returns-clause-firsts : goal.returns-clause-firsts
returns-clause-firsts c heap are held =
    let above = c.requires.above in
    first-then heap c.args.tree.now _ c.in_ok-node.ensures.nodes (child_path above.0 (cow_slice_items c.args.named.now.name)) _
    (c.requires.free above.0 above.1) (c.in_ok-node.ensures.ok above.0 above.1).0 c.args.firsts.now c.note.new.self _ c.in_ok-node.node are
    c.in_ok-note.ensures.ok (c.in_ok-node.ensures.ok above.0 above.1).1 held
