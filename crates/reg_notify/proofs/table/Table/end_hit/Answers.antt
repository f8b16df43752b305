use Rattle.std.proofs.Common.{◌∙◌, refl}
use Rattle.reg_model.specs.declared.notice.Reason.TheVariants.{Matched}
use Rattle.reg_notify.specs.Internal.Hits.{any_class}
use Rattle.reg_notify.proofs.EndsSteps.{ends-never}
use Rattle.reg_notify.proofs.HitSteps.{hit-step, none-at-place}
use Rattle.reg_notify.proofs.table.Table.end_hit.Goals as goal

pub returns-then-not-has_watch-clause-ends : goal.returns-then-not-has_watch-clause-ends
returns-then-not-has_watch-clause-ends c =
    none-at-place c.args.by c.args.bits c.args.itself _ c.args.text.now.items c.args.self.now c.requires.ready
    (c.has_watch.ensures.none c.if-not-has_watch.true)

pub loop-class-init : goal.loop-class-init
unfolding any_class
loop-class-init c = record {
  ends = ends-never _ _ Matched c.args.self.now c.requires.ready (λ e. refl);
  text = c.has_watch.ensures.text;
  room = c.has_watch.ensures.room;
}

pub loop-class-preserved : goal.loop-class-preserved
loop-class-preserved c = record {
  ends = hit-step c.args.by c.args.bits c.args.itself c.loop-class.class c.args.text.now.items c.loop-class.text.items c.args.self.now c.loop-class.self c.end_class.new.self
      c.loop-class.invariant.text c.loop-class.invariant.ends c.end_class.ensures.ends;
  text = c.end_class.ensures.text ∙ c.loop-class.invariant.text;
  room = c.end_class.ensures.room;
}
