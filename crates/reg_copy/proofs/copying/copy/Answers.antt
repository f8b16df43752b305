use Rattle.std.proofs.Common.{sym, ◌∙◌, refl}
use Rattle.reg_heap.specs.Edits.{child_path}
use Rattle.reg_tree.proofs.Invariant.CellReadings.{some_of}
use Rattle.reg_tree_text.proofs.SentTexts.{err_exits}
use Rattle.reg_copy.proofs.CopyEnds.{ended, if-ok, stops-may, late, lack-stops, may-copy}
use Rattle.reg_copy.proofs.KeyParts.{good-name}
use Rattle.reg_copy.proofs.copying.copy.Goals as goal

pub has_child-requires-clause-name : goal.has_child-requires-clause-name
has_child-requires-clause-name c =
    let f = c.in-Some.ensures in
    let r = some_of _ (c.name-name.ensures.key f.0 f.2) in
    good-name c.name-name.result.now r.0 (c.name-name.ensures.told f.0 f.2 r.0 r.1) (c.root-root.ensures.limits.keys f.0 r.0 r.1)

pub returns-in_err-copy_below-clause-err : goal.returns-in_err-copy_below-clause-err
returns-in_err-copy_below-clause-err c =
    let f = c.in-Some.ensures in
    let g = c.in-Some-find_key.ensures in
    let r = some_of _ (c.name-name.ensures.key f.0 f.2) in
    let may =
    may-copy c.args.source.now.tree c.args.from.now c.args.target.now.tree c.args.into.now c.name-name.result.now f.0 g.0 r.0 f.1 g.1 r.1
    (c.name-name.ensures.told f.0 f.2 r.0 r.1) (sym c.if-has_child.false ∙ c.has_child.ensures g.0 g.2) in
    err_exits _ c.from_residual.result _ c.from_residual.ensures.1
    (stops-may c.args.source.now.tree c.args.from.now c.args.target.now.tree c.args.into.now may _
    (c.in_err-copy_below.ensures.err f.0 g.0 r.0 f.2 r.1 g.2))

pub returns-in_err-copy_below-clause-stays : goal.returns-in_err-copy_below-clause-stays
returns-in_err-copy_below-clause-stays c =
    let f = c.in-Some.ensures in
    let g = c.in-Some-find_key.ensures in
    let r = some_of _ (c.name-name.ensures.key f.0 f.2) in
    err_exits _ c.from_residual.result _ c.from_residual.ensures.1
    (λ early.
    late c.args.source.now.tree c.args.target.now.tree f.0 g.0 (child_path g.0 r.0.name) _
    (c.in_err-copy_below.ensures.err f.0 g.0 r.0 f.2 r.1 g.2) early)

pub returns-clause-ok : goal.returns-clause-ok
returns-clause-ok c =
    let f = c.in-Some.ensures in
    let g = c.in-Some-find_key.ensures in
    let r = some_of _ (c.name-name.ensures.key f.0 f.2) in
    let may =
    may-copy c.args.source.now.tree c.args.from.now c.args.target.now.tree c.args.into.now c.name-name.result.now f.0 g.0 r.0 f.1 g.1 r.1
    (c.name-name.ensures.told f.0 f.2 r.0 r.1) (sym c.if-has_child.false ∙ c.has_child.ensures g.0 g.2) in
    if-ok c.set_time.result
    (λ e. (
      may,
      ended c.args.source.now.tree f.0 g.0 (child_path g.0 r.0.name) c.args.moment r.0.name refl c.args.source.now c.copy_below.new.target
          c.args.target.now.tree c.set_time.new.tree.tree refl (c.in_ok-copy_below.ensures.ok f.0 g.0 r.0 f.2 r.1 g.2) e,
    ))
    (c.set_time.ensures.ok g.0 (c.in_ok-copy_below.ensures.nodes g.0 c.in-Some-find_key.parent g.2))

pub returns-clause-err : goal.returns-clause-err
returns-clause-err c =
    let f = c.in-Some.ensures in
    let g = c.in-Some-find_key.ensures in
    let r = some_of _ (c.name-name.ensures.key f.0 f.2) in
    let may =
    may-copy c.args.source.now.tree c.args.from.now c.args.target.now.tree c.args.into.now c.name-name.result.now f.0 g.0 r.0 f.1 g.1 r.1
    (c.name-name.ensures.told f.0 f.2 r.0 r.1) (sym c.if-has_child.false ∙ c.has_child.ensures g.0 g.2) in
    lack-stops c.args.source.now.tree c.args.from.now c.args.target.now.tree c.args.into.now may c.set_time.result c.set_time.ensures.err

pub returns-clause-nodes : goal.returns-clause-nodes
returns-clause-nodes c =
    if-ok c.set_time.result (λ stay path node a. stay path node (c.in_ok-copy_below.ensures.nodes path node a)) c.set_time.ensures.nodes
