use Rattle.std.proofs.Common.{◌<◌, ◌∙◌, length, rules, length-set}
use Rattle.reg_sessions.proofs.Dropped.{dropped_none, dropped_next}
use Rattle.reg_sessions.proofs.checkpoints.drop_receipts.Goals as goal

pub loop-s-init : goal.loop-s-init
loop-s-init c = (search rules, dropped_none c.args.hive c.args.sessions.now)

pub loop-s-preserved : goal.loop-s-preserved
loop-s-preserved c =
    let within : c.loop-s.s < length c.loop-s.sessions = search rules in (
      length-set c.loop-s.sessions c.loop-s.s c.drop_receipts.new.self ∙ c.loop-s.invariant.0,
      dropped_next c.args.hive c.loop-s.s _ c.loop-s.sessions c.index-sessions-s.result c.drop_receipts.new.self within c.drop_receipts.ensures c.loop-s.invariant.1,
    )

pub returns-clause-dropped : goal.returns-clause-dropped
returns-clause-dropped c = λ s below. c.loop-s.invariant.1.dropped s (search rules) below
