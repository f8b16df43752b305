use Rattle.std.proofs.Common.{sym, ◌∙◌}
use Rattle.reg_tree.proofs.PathWalk.PathSteps.{some_names}
use Rattle.reg_tree.proofs.InsertKey.CreatePath.{created_none, new_none, new_some, none_many}
use Rattle.reg_tree.proofs.InsertKey.CreatePathMade.{belongs_there, no_cells}
use Rattle.reg_tree.proofs.InsertKey.CreatePathEnds.{from_shallow, empty_names, of_two, limit_none, limit_many, limit_other}
use Rattle.reg_tree.proofs.InsertKey.PathCarve.{full-is}
use Rattle.reg_tree.proofs.InsertKey.KeyLimits.{test-too_many, not_many}
use Rattle.reg_tree.proofs.make.create.Goals as goal

pub reach-reached-requires-clause-depth : goal.reach-reached-requires-clause-depth
reach-reached-requires-clause-depth c = from_shallow _ _ c.requires.here.0 c.requires.here.2

pub returns-then-is_empty-clause-ok : goal.returns-then-is_empty-clause-ok
returns-then-is_empty-clause-ok c = λ t same d. created_none _ c.args.from t c.args.path.now _ _ c.reach-reached.ensures.reaches c.args.moment _ same _
    (empty_names _ c.is_empty.result c.is_empty.ensures c.if-is_empty.true)

pub returns-then-is_empty-clause-new : goal.returns-then-is_empty-clause-new
returns-then-is_empty-clause-new c = λ t. new_none _ c.args.from t c.args.path.now _ _ c.reach-reached.ensures.reaches c.args.moment
    (empty_names _ c.is_empty.result c.is_empty.ensures c.if-is_empty.true)

pub returns-then-is_empty-clause-limit : goal.returns-then-is_empty-clause-limit
returns-then-is_empty-clause-limit c = λ t d. limit_none _ (none_many _ c.args.from t c.args.path.now _ _ c.reach-reached.ensures.reaches c.args.moment
    (empty_names _ c.is_empty.result c.is_empty.ensures c.if-is_empty.true))

pub returns-then-is_empty-clause-cells : goal.returns-then-is_empty-clause-cells
returns-then-is_empty-clause-cells c = λ t same d. no_cells c.args.arena.now c.args.from t c.args.path.now _ _ c.reach-reached.ensures.reaches c.args.moment _
    (empty_names _ c.is_empty.result c.is_empty.ensures c.if-is_empty.true)

pub is_limited-requires : goal.is_limited-requires
is_limited-requires c = (c.args.from, c.args.path.now, record { here = c.requires.here.0; depth = c.requires.here.2; reaches = c.reach-reached.ensures.reaches })

pub returns-then-is_limited-clause-limit : goal.returns-then-is_limited-clause-limit
returns-then-is_limited-clause-limit c = λ t d.
    limit_many (test-too_many _ _ _ (sym (c.is_limited.ensures c.args.from c.args.path.now (record { here = t; depth = d; reaches = c.reach-reached.ensures.reaches })) ∙ c.if-is_limited.true))

pub create_at-requires-clause-reached : goal.create_at-requires-clause-reached
create_at-requires-clause-reached c = (
  c.args.from,
  c.args.path.now,
  record { here = c.requires.here.0; depth = c.requires.here.2; reaches = c.reach-reached.ensures.reaches },
  c.requires.here.1,
  sym (c.is_limited.ensures c.args.from c.args.path.now (record { here = c.requires.here.0; depth = c.requires.here.2; reaches = c.reach-reached.ensures.reaches }))
      ∙ c.if-is_limited.false,
)

pub returns-in-Ok-clause-ok : goal.returns-in-Ok-clause-ok
returns-in-Ok-clause-ok c = λ t same d. c.in-Ok.ensures.ok c.args.from c.args.path.now (record { here = t; depth = d; reaches = c.reach-reached.ensures.reaches }) same

pub returns-in-Ok-clause-new : goal.returns-in-Ok-clause-new
returns-in-Ok-clause-new c = λ t.
    new_some _ c.args.from t c.args.path.now _ _ c.reach-reached.ensures.reaches c.args.moment (some_names _ c.is_empty.result c.is_empty.ensures c.if-is_empty.false)

pub returns-in-Ok-clause-cells : goal.returns-in-Ok-clause-cells
returns-in-Ok-clause-cells c = λ t same d. (
  c.reach-reached.result.place,
  belongs_there c.args.arena.now c.args.from t c.args.path.now _ _ c.reach-reached.ensures.reaches c.args.moment _ c.reach-reached.ensures.place.belongs,
  c.in-Ok.ensures.cells c.args.from c.args.path.now (record { here = t; depth = d; reaches = c.reach-reached.ensures.reaches }) same,
  c.in-Ok.ensures.growth c.args.from c.args.path.now (record { here = t; depth = d; reaches = c.reach-reached.ensures.reaches }) same,
)

pub returns-in-Ok-clause-limit : goal.returns-in-Ok-clause-limit
returns-in-Ok-clause-limit c = λ t d.
    limit_none _
    (not_many _ _ _ (sym (c.is_limited.ensures c.args.from c.args.path.now (record { here = t; depth = d; reaches = c.reach-reached.ensures.reaches })) ∙ c.if-is_limited.false))

pub returns-in-Err-clause-limit : goal.returns-in-Err-clause-limit
returns-in-Err-clause-limit c = λ t d.
    limit_other c.from.result (of_two c.in-Err.fault c.from.result c.from.ensures)
    (not_many _ _ _ (sym (c.is_limited.ensures c.args.from c.args.path.now (record { here = t; depth = d; reaches = c.reach-reached.ensures.reaches })) ∙ c.if-is_limited.false))

pub returns-in-Err-clause-space : goal.returns-in-Err-clause-space
returns-in-Err-clause-space c = λ t same d full. (
  c.reach-reached.result.place,
  belongs_there c.args.arena.now c.args.from t c.args.path.now _ _ c.reach-reached.ensures.reaches c.args.moment _ c.reach-reached.ensures.place.belongs,
  c.in-Err.ensures.space c.args.from c.args.path.now (record { here = t; depth = d; reaches = c.reach-reached.ensures.reaches }) same
      (full-is c.in-Err.fault c.from.result c.from.ensures full),
)
