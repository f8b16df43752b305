use Rattle.std.proofs.Common.{subst}
use Rattle.reg_heap.specs.Edits.{child_path}
use Rattle.reg_tree.proofs.Invariant.CellReadings.{some_of}
use Rattle.reg_tree_text.proofs.SentTexts.{err_exits}
use Rattle.reg_copy.proofs.CopyEnds.{begun, if-ok, if-halted, refused-halts}
use Rattle.reg_copy.specs.Internal.Copying.{IsNoted}
use Rattle.reg_copy.proofs.copying.copy_below.Goals as goal

pub copy_pending-requires : goal.copy_pending-requires
copy_pending-requires c =
    let at = c.requires.there in
    let there = c.requires.parent in
    let r = some_of _ (c.name-name.ensures.key at.0 at.1) in (
      at.0,
      child_path there.0 r.0.name,
      c.args.target.now.tree,
      begun c.args.source.now c.args.target.now c.copy_key.new.target c.root.ensures.tree c.root-2.ensures.tree at.0 there.0 r.0
          c.marks_of-marks.result r.1 (c.marks_of-marks.ensures.same at.0 r.0 at.1 r.1) c.args.node c.in_ok-copy.copy
          (c.in_ok-copy.ensures.ok at.0 there.0 r.0 at.1 r.1 there.1) (c.requires.free at.0 there.0 r.0 at.1 r.1 there.1) at.1
          c.note_first.new.pending.items
          (subst (λ olds. IsNoted c.args.source.now at.0 c.args.node c.in_ok-copy.copy 0 olds c.note_first.new.pending.items) c.new-pending.ensures.items
          (c.in_ok-note_first.ensures at.0 at.1)),
    )

pub returns-clause-ok : goal.returns-clause-ok
returns-clause-ok c p q r at e there =
    c.copy_pending.ensures.ok p (child_path q r.name) c.args.target.now.tree
    (begun c.args.source.now c.args.target.now c.copy_key.new.target c.root.ensures.tree c.root-2.ensures.tree p q r c.marks_of-marks.result e
    (c.marks_of-marks.ensures.same p r at e) c.args.node c.in_ok-copy.copy (c.in_ok-copy.ensures.ok p q r at e there)
    (c.requires.free p q r at e there) at c.note_first.new.pending.items
    (subst (λ olds. IsNoted c.args.source.now p c.args.node c.in_ok-copy.copy 0 olds c.note_first.new.pending.items) c.new-pending.ensures.items
    (c.in_ok-note_first.ensures p at)))

pub returns-clause-nodes : goal.returns-clause-nodes
returns-clause-nodes c =
    let at = c.requires.there in
    let there = c.requires.parent in
    let r = some_of _ (c.name-name.ensures.key at.0 at.1) in
    if-ok c.copy_pending.result
    (λ stay path node a. stay path node ((c.in_ok-copy.ensures.ok at.0 there.0 r.0 at.1 r.1 there.1).nodes path node a)) c.copy_pending.ensures.nodes

pub returns-clause-err : goal.returns-clause-err
returns-clause-err c p q r at e there =
    if-halted c.args.source.now.tree c.args.target.now.tree p q (child_path q r.name) c.copy_pending.result
    (c.copy_pending.ensures.err p (child_path q r.name) c.args.target.now.tree
    (begun c.args.source.now c.args.target.now c.copy_key.new.target c.root.ensures.tree c.root-2.ensures.tree p q r c.marks_of-marks.result e
    (c.marks_of-marks.ensures.same p r at e) c.args.node c.in_ok-copy.copy (c.in_ok-copy.ensures.ok p q r at e there)
    (c.requires.free p q r at e there) at c.note_first.new.pending.items
    (subst (λ olds. IsNoted c.args.source.now p c.args.node c.in_ok-copy.copy 0 olds c.note_first.new.pending.items) c.new-pending.ensures.items
    (c.in_ok-note_first.ensures p at))))

pub returns-in_err-copy-clause-err : goal.returns-in_err-copy-clause-err
returns-in_err-copy-clause-err c p q r at e there =
    err_exits _ c.from_residual.result _ c.from_residual.ensures.1
    (refused-halts c.args.source.now.tree c.args.target.now.tree p q r e _ (c.in_err-copy.ensures.err q there))
