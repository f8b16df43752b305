use Rattle.reg_tree_text.proofs.SentTexts.{err_exits}
use Rattle.reg_copy.proofs.CopySteps.{popped}
use Rattle.reg_copy.proofs.copying.copy_pending.Goals as goal

pub step-requires : goal.step-requires
step-requires c =
    let r = c.requires in (
      r.0,
      r.1,
      r.2,
      popped c.args.source.now c.loop-key.target r.0 r.1 r.2 c.loop-key.pending.items c.pop.new.self.items c.in-Some.next c.in-Some.ensures.items
          (c.loop-key.invariant.1 r.0 r.1 r.2 r.3),
    )

pub returns-in_err-step-clause-err : goal.returns-in_err-step-clause-err
returns-in_err-step-clause-err c from to old s =
    err_exits _ c.from_residual.result _ c.from_residual.ensures.1
    (c.in_err-step.ensures.err from to old
    (popped c.args.source.now c.loop-key.target from to old c.loop-key.pending.items c.pop.new.self.items c.in-Some.next c.in-Some.ensures.items
    (c.loop-key.invariant.1 from to old s)))

pub loop-key-preserved : goal.loop-key-preserved
loop-key-preserved c = (
  λ path node a. c.in_ok-step.ensures.nodes path node (c.loop-key.invariant.0 path node a),
  λ from to old s. c.in_ok-step.ensures.ok from to old
      (popped c.args.source.now c.loop-key.target from to old c.loop-key.pending.items c.pop.new.self.items c.in-Some.next c.in-Some.ensures.items
      (c.loop-key.invariant.1 from to old s)),
)
