use Rattle.std.proofs.Common.{◌≡◌, None, Some, refl, subst}
use Rattle.std.specs.FinMap.{get}
use Rattle.std.specs.Cow.{cow_slice_items}
use Rattle.reg_heap.specs.Edits.{child_path}
use Rattle.reg_tree.specs.Reaching.{IsWalkedTo}
use Rattle.reg_tree_image.proofs.Readers.SiblingTests.{path-valid, free-below, taken-below, none-left, some-left}
use Rattle.reg_tree_image.proofs.Readers.BegunSteps.{head-twice, head-done, head-deep}
use Rattle.reg_tree_image.proofs.begin.reach_below.Goals as goal

pub reach-reached-requires-clause-path : goal.reach-reached-requires-clause-path
reach-reached-requires-clause-path c = path-valid (cow_slice_items c.args.named.now.name) _ c.as_slice.ensures.value c.requires.named.name

pub returns-then-is_empty-clause-heads : goal.returns-then-is_empty-clause-heads
returns-then-is_empty-clause-heads c heap levels path at offset seen states done told is deep =
    head-twice heap path (child_path at) offset seen c.args.named.now states done
    (taken-below c.args.tree.now seen told at (cow_slice_items c.args.named.now.name) _ c.as_slice.ensures.value c.requires.named.name
    (Some c.reach-reached.result.node)
    (c.reach-reached.ensures.there at is (none-left c.reach-reached.result.missing.now c.is_empty.result c.is_empty.ensures c.if-is_empty.true))
    refl)

pub returns-clause-free : goal.returns-clause-free
returns-clause-free c p is =
    free-below c.args.tree.now p (cow_slice_items c.args.named.now.name) _ c.as_slice.ensures.value c.requires.named.name None
    (c.reach-reached.ensures.absent p is (some-left c.reach-reached.result.missing.now c.is_empty.result c.is_empty.ensures c.if-is_empty.false))
    refl

pub returns-clause-walked : goal.returns-clause-walked
returns-clause-walked c =
    subst (λ name. IsWalkedTo c.args.tree.now c.args.above name c.reach-reached.result) c.as_slice.ensures.value c.reach-reached.ensures.reached

pub returns-clause-heads : goal.returns-clause-heads
returns-clause-heads c heap levels path at offset seen states done told is deep =
    head-done heap path (child_path at) offset seen c.args.named.now states done
    (subst (λ tree. get tree (child_path at (cow_slice_items c.args.named.now.name)) ≡ None) told
    (free-below c.args.tree.now at (cow_slice_items c.args.named.now.name) _ c.as_slice.ensures.value c.requires.named.name None
    (c.reach-reached.ensures.absent at is (some-left c.reach-reached.result.missing.now c.is_empty.result c.is_empty.ensures c.if-is_empty.false))
    refl))

pub returns-then-above-ge-PATH_LIMIT-clause-heads : goal.returns-then-above-ge-PATH_LIMIT-clause-heads
returns-then-above-ge-PATH_LIMIT-clause-heads c heap levels path at offset seen states done told is deep =
    head-deep heap levels c.args.above.depth path (child_path at) offset seen c.args.named.now states
    (head-done heap path (child_path at) offset seen c.args.named.now states done
    (subst (λ tree. get tree (child_path at (cow_slice_items c.args.named.now.name)) ≡ None) told
    (free-below c.args.tree.now at (cow_slice_items c.args.named.now.name) _ c.as_slice.ensures.value c.requires.named.name None
    (c.reach-reached.ensures.absent at is (some-left c.reach-reached.result.missing.now c.is_empty.result c.is_empty.ensures c.if-is_empty.false))
    refl)))
    c.if-above-ge-PATH_LIMIT.true deep
