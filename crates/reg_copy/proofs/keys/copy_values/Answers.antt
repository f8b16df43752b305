use Rattle.std.proofs.Common.{sym, ap, ◌∙◌, arith, ◌+◌, length}
use Rattle.std.specs.FinMap.{get, insert}
use Rattle.reg_heap.specs.Edits.{values_of}
use Rattle.reg_heap.specs.Paths.{Tree}
use Rattle.reg_tree.proofs.BuildKey.BuiltTrees.{get-here}
use Rattle.reg_tree.proofs.InsertKey.LastDescribed.{insert-twice}
use Rattle.reg_tree.proofs.InsertKey.SpareCellsCarved.{insert-same}
use Rattle.reg_copy.specs.Internal.Copying.{front_copy}
use Rattle.reg_copy.proofs.FrontValues.{whole-front}
use Rattle.reg_copy.proofs.keys.copy_values.Goals as goal

pub loop-index-init : goal.loop-index-init
loop-index-init c = (λ path node a. a, λ p q r marks at e there told. sym (insert-same c.args.target.now.tree q (front_copy marks 0 r) told))

pub copy_value-requires-clause-front : goal.copy_value-requires-clause-front
copy_value-requires-clause-front c =
    let f = c.requires.bare in
    let i = c.loop-index.invariant in (
      f.0,
      f.1,
      f.2,
      f.3,
      f.4,
      i.0 f.1 c.args.copy f.5,
      (
        f.6.0,
        ap (λ (t : Tree). get t f.1) (i.1 f.0 f.1 f.2 f.6.0 f.3 f.4 f.5 f.6.1)
            ∙ get-here c.args.target.now.tree f.1 (front_copy f.6.0 c.loop-index.index f.2),
      ),
    )

pub loop-index-preserved : goal.loop-index-preserved
loop-index-preserved c =
    let i = c.loop-index.invariant in (
      λ path node a. c.in_ok-copy_value.ensures.nodes path node (i.0 path node a),
      λ p q r marks at e there told.
          (let was = i.1 p q r marks at e there told in
          c.in_ok-copy_value.ensures.ok p q r marks at e (i.0 q c.args.copy there)
          (ap (λ (t : Tree). get t q) was ∙ get-here c.args.target.now.tree q (front_copy marks c.loop-index.index r))
          ∙ (ap (λ (t : Tree). insert t q (front_copy marks (c.loop-index.index + 1) r)) was
          ∙ insert-twice c.args.target.now.tree q (front_copy marks c.loop-index.index r) (front_copy marks (c.loop-index.index + 1) r))),
    )

pub returns-clause-ok : goal.returns-clause-ok
returns-clause-ok c p q r marks at e there told =
    let past = c.loop-index-test.false in
    let most = c.loop-index.auto.index-end in
    let n = c.values-index-end.ensures p at in
    let v = ap length (ap values_of e) in
    c.loop-index.invariant.1 p q r marks at e there told
    ∙ ap (insert c.args.target.now.tree q) (whole-front marks c.loop-index.index r (omega (arith, past, most, n, v)))
