use Rattle.std.proofs.Common.{arith, refl, subst, ◌∙◌}
use Rattle.reg_arena.specs.Arena.{heap_of}
use Rattle.reg_tree.specs.Internal.LengthChanges.{LengthsStay}
use Rattle.reg_tree.proofs.DeleteKey.KeyAbove.{same_root}
use Rattle.reg_tree.proofs.PruneTree.KeysUnder.{prunes-none, node-top, all-bared, prunes-up, steps-up, first-here, low-first, prunes-down, steps-down, first-lone, prunes-more, steps-more}
use Rattle.reg_tree.proofs.prune.delete_under.Goals as goal

pub loop-first-init : goal.loop-first-init
loop-first-init c = record { run = λ t same. prunes-none _ _ t c.args.moment c.args.securities.now same; long = refl }

pub first_subkey-requires : goal.first_subkey-requires
first_subkey-requires c =
    let t = c.requires.0 in
    (node-top _ _ t c.args.moment _ _ c.loop-first.node (c.loop-first.invariant.run t c.requires.1)).here

pub returns-then-node-eq0-clause-bared : goal.returns-then-node-eq0-clause-bared
returns-then-node-eq0-clause-bared c = λ t same.
    let m = c.loop-first.invariant.run t same in
    all-bared _ _ t c.args.moment _ _ c.loop-first.node m (c.in_default.ensures (node-top _ _ t c.args.moment _ _ c.loop-first.node m).here) c.if-node-eq0.true

pub returns-then-node-eq0-clause-lengths : goal.returns-then-node-eq0-clause-lengths
returns-then-node-eq0-clause-lengths c = λ t.
    let u = c.requires.0 in
    subst (LengthsStay (heap_of c.args.arena.now) (heap_of c.loop-first.arena)) (same_root _ _ u t) (c.loop-first.invariant.run u c.requires.1).lengths

pub parent_of-node-requires-clause-top : goal.parent_of-node-requires-clause-top
parent_of-node-requires-clause-top c =
    let t = c.requires.0 in
    node-top _ _ t c.args.moment _ _ c.loop-first.node (c.loop-first.invariant.run t c.requires.1)

pub loop-first-smaller-in_default : goal.loop-first-smaller-in_default
loop-first-smaller-in_default c =
    let t = c.requires.0 in
    let m = c.loop-first.invariant.run t c.requires.1 in
    let top = node-top _ _ t c.args.moment _ _ c.loop-first.node m in
    steps-up _ _ t c.args.moment _ _ c.loop-first.node m (c.in_default.ensures top.here) c.if-node-eq0.false c.parent_of-node.result (c.parent_of-node.ensures top)

pub loop-first-preserved-in_default : goal.loop-first-preserved-in_default
loop-first-preserved-in_default c = record {
  run = λ t same.
      let m = c.loop-first.invariant.run t same in
      let top = node-top _ _ t c.args.moment _ _ c.loop-first.node m in
      prunes-up _ _ t c.args.moment _ _ c.loop-first.node m (c.in_default.ensures top.here) c.if-node-eq0.false c.parent_of-node.result (c.parent_of-node.ensures top);
  long = c.loop-first.invariant.long;
}

pub has_children-requires : goal.has_children-requires
has_children-requires c =
    let t = c.requires.0 in
    let m = c.loop-first.invariant.run t c.requires.1 in
    first-here _ _ t c.args.moment _ _ c.loop-first.node m c.in-Some.first (c.in-Some.ensures (node-top _ _ t c.args.moment _ _ c.loop-first.node m).here)

pub overflow_add-node : goal.overflow_add-node
overflow_add-node c =
    let t = c.requires.0 in
    let m = c.loop-first.invariant.run t c.requires.1 in
    let l = low-first _ _ t c.args.moment _ _ c.loop-first.node m c.in-Some.first (c.in-Some.ensures (node-top _ _ t c.args.moment _ _ c.loop-first.node m).here) in
    omega (arith, l)

pub loop-first-smaller-then-has_children : goal.loop-first-smaller-then-has_children
loop-first-smaller-then-has_children c =
    let t = c.requires.0 in
    let m = c.loop-first.invariant.run t c.requires.1 in
    let first = c.in-Some.ensures (node-top _ _ t c.args.moment _ _ c.loop-first.node m).here in
    steps-down _ _ t c.args.moment _ _ c.loop-first.node m c.in-Some.first first c.has_children.result
    (c.has_children.ensures (first-here _ _ t c.args.moment _ _ c.loop-first.node m c.in-Some.first first)) c.if-has_children.true

pub loop-first-preserved-then-has_children : goal.loop-first-preserved-then-has_children
loop-first-preserved-then-has_children c = record {
  run = λ t same.
      let m = c.loop-first.invariant.run t same in
      prunes-down _ _ t c.args.moment _ _ c.loop-first.node m c.in-Some.first (c.in-Some.ensures (node-top _ _ t c.args.moment _ _ c.loop-first.node m).here);
  long = c.loop-first.invariant.long;
}

pub delete_at-requires-clause-here : goal.delete_at-requires-clause-here
delete_at-requires-clause-here c =
    let t = c.requires.0 in
    let m = c.loop-first.invariant.run t c.requires.1 in
    let first = c.in-Some.ensures (node-top _ _ t c.args.moment _ _ c.loop-first.node m).here in
    let here = first-here _ _ t c.args.moment _ _ c.loop-first.node m c.in-Some.first first in (
      here,
      refl,
      first-lone _ _ t c.args.moment _ _ c.loop-first.node m c.in-Some.first first c.has_children.result (c.has_children.ensures here) c.if-has_children.false,
    )

pub delete_at-requires-clause-place : goal.delete_at-requires-clause-place
delete_at-requires-clause-place c =
    let t = c.requires.0 in
    (c.in-Some.ensures (node-top _ _ t c.args.moment _ _ c.loop-first.node (c.loop-first.invariant.run t c.requires.1)).here).2

pub loop-first-smaller : goal.loop-first-smaller
loop-first-smaller c =
    let t = c.requires.0 in
    let m = c.loop-first.invariant.run t c.requires.1 in
    let first = c.in-Some.ensures (node-top _ _ t c.args.moment _ _ c.loop-first.node m).here in
    let here = first-here _ _ t c.args.moment _ _ c.loop-first.node m c.in-Some.first first in
    let e = c.has_children.ensures here in
    let lone = first-lone _ _ t c.args.moment _ _ c.loop-first.node m c.in-Some.first first c.has_children.result e c.if-has_children.false in
    steps-more _ _ t c.args.moment _ _ c.loop-first.node m c.in-Some.first first c.has_children.result e c.if-has_children.false c.delete_at.new.arena.bytes _
    (c.delete_at.ensures.deleted here refl lone) (c.delete_at.ensures.lengths here lone)

pub loop-first-preserved : goal.loop-first-preserved
loop-first-preserved c = record {
  run = λ t same.
      let m = c.loop-first.invariant.run t same in
      let first = c.in-Some.ensures (node-top _ _ t c.args.moment _ _ c.loop-first.node m).here in
      let here = first-here _ _ t c.args.moment _ _ c.loop-first.node m c.in-Some.first first in
      let e = c.has_children.ensures here in
      let lone = first-lone _ _ t c.args.moment _ _ c.loop-first.node m c.in-Some.first first c.has_children.result e c.if-has_children.false in
      prunes-more _ _ t c.args.moment _ _ c.loop-first.node m c.in-Some.first first c.has_children.result e c.if-has_children.false c.delete_at.new.arena.bytes _
      (c.delete_at.ensures.deleted here refl lone) (c.delete_at.ensures.lengths here lone);
  long = c.delete_at.ensures.long ∙ c.loop-first.invariant.long;
}
