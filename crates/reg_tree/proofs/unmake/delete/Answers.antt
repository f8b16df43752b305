use Rattle.reg_tree.proofs.DeleteKey.DeleteKeyFaults.{no_children, inner}
use Rattle.reg_tree.proofs.PruneTree.TopKeys.{stands_somewhere}
use Rattle.reg_tree.proofs.unmake.delete.Goals as goal

pub place_of-place-requires : goal.place_of-place-requires
place_of-place-requires c =
    let t = c.requires.0 in
    stands_somewhere _ _ t (inner _ _ t c.is_kept.result (c.is_kept.ensures t) c.if-is_kept.false)

pub delete_at-requires-clause-here : goal.delete_at-requires-clause-here
delete_at-requires-clause-here c = let t = c.requires.0 in (
  t,
  c.requires.1,
  (
    inner _ _ t c.is_kept.result (c.is_kept.ensures t) c.if-is_kept.false,
    no_children _ _ t c.has_children.result (c.has_children.ensures t) c.if-has_children.false,
  ),
)

pub returns-clause-ok : goal.returns-clause-ok
returns-clause-ok c = λ t same.
    c.delete_at.ensures.deleted t same (
      inner _ _ t c.is_kept.result (c.is_kept.ensures t) c.if-is_kept.false,
      no_children _ _ t c.has_children.result (c.has_children.ensures t) c.if-has_children.false,
    )

pub returns-clause-lengths : goal.returns-clause-lengths
returns-clause-lengths c = λ t.
    c.delete_at.ensures.lengths t (
      inner _ _ t c.is_kept.result (c.is_kept.ensures t) c.if-is_kept.false,
      no_children _ _ t c.has_children.result (c.has_children.ensures t) c.if-has_children.false,
    )
