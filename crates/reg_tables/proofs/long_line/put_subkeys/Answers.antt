use Rattle.std.proofs.Common.{arith, ap, []}
use Rattle.std.specs.Prelude.{flat_map}
use Rattle.std.proofs.lemmas.List.{drop_all}
use Rattle.reg_heap.specs.Paths.{children_of}
use Rattle.reg_tree_text.proofs.SentTexts.{exits, ends}
use Rattle.reg_tree_text.proofs.ListedKeys.{next_first, next_behind, next_is, next_none}
use Rattle.reg_tables.proofs.LongLines.{child_at, item-next}
use Rattle.reg_tables.proofs.long_line.put_subkeys.Goals as goal

pub loop-index-init : goal.loop-index-init
loop-index-init g c = λ p at. (next_first _ p _ _ (c.first_subkey-next.ensures p at), λ begin whole left s. s)

pub unreachable-requires : goal.unreachable-requires
unreachable-requires g c =
    let v = c.loop-index.invariant c.requires.0 c.requires.1 in
    let e = c.subkeys-index-end.ensures c.requires.0 c.requires.1 in
    let n = next_none c.args.tree.now c.requires.0 c.args.node c.loop-index._index c.loop-index.next v.0 c.in_default.is in
    omega (arith, n, e)

pub put_child-requires : goal.put_child-requires
put_child-requires g c =
    let v = c.loop-index.invariant c.requires.0 c.requires.1 in
    let n = next_is _ _ _ _ _ _ v.0 c.in-Some.is in
    (_, n.at)

pub returns-in_err-put_child : goal.returns-in_err-put_child
returns-in_err-put_child g c =
    λ p at begin whole left s.
    (let v = c.loop-index.invariant p at in
    let n = next_is _ _ _ _ _ _ v.0 c.in-Some.is in
    exits _ _ _ _ c.from_residual.ensures.1
    (c.in_err-put_child.ensures _ n.at begin whole _
    (item-next begin _ whole (child_at c.args.columns c.args.tree.now.tree) (children_of c.args.tree.now.tree p) c.loop-index._index [] left _ _ n.within
    (v.1 begin whole left s))))

pub next_subkey-next-requires : goal.next_subkey-next-requires
next_subkey-next-requires g c =
    let v = c.loop-index.invariant c.requires.0 c.requires.1 in
    (_, _, c.requires.1, next_is _ _ _ _ _ _ v.0 c.in-Some.is)

pub loop-index-preserved : goal.loop-index-preserved
loop-index-preserved g c =
    λ p at.
    (let v = c.loop-index.invariant p at in
    let n = next_is _ _ _ _ _ _ v.0 c.in-Some.is in (
      next_behind _ p _ _ _ (c.next_subkey-next.ensures p at _ n),
      λ begin whole left s.
          c.in_ok-put_child.ensures _ n.at begin whole _
          (item-next begin _ whole (child_at c.args.columns c.args.tree.now.tree) (children_of c.args.tree.now.tree p) c.loop-index._index [] left _ _ n.within
          (v.1 begin whole left s)),
    ))

pub returns : goal.returns
returns g c =
    λ p at begin whole left s.
    (let e = c.subkeys-index-end.ensures p at in
    ends begin _ whole _ left _ _ ((c.loop-index.invariant p at).1 begin whole left s)
    (ap (flat_map (child_at c.args.columns c.args.tree.now.tree)) (drop_all c.loop-index._index (children_of c.args.tree.now.tree p) (omega (arith, e)))))
