use Rattle.std.proofs.Common.{◌++◌, ◌∙◌, ap, subst}
use Rattle.reg_calls.specs.HiveView.{view_of}
use Rattle.reg_calls.specs.Views.{IsNoticeTaken}
use Rattle.reg_outbox.specs.Rings.{backlog_of}
use Rattle.reg_outbox.proofs.MovedNotices.{one_more, front_next}
use Rattle.reg_outbox.proofs.ends.Outbox.refill.Goals as goal

pub loop-moved-preserved : goal.loop-moved-preserved
loop-moved-preserved g c =
    let taken = subst (λ o. IsNoticeTaken (view_of c.loop-moved.hive) (view_of c.take_notice.new.self) c.args.session o) c.in-Some.is c.take_notice.ensures.notice in (
      one_more c.args.session c.loop-moved.moved (view_of c.args.hive.now) (view_of c.loop-moved.hive) (view_of c.take_notice.new.self) c.in-Some.notice c.loop-moved.invariant.0 taken,
      ap (λ s. s ++ backlog_of c.args.session (view_of c.take_notice.new.self)) c.push_reserved.ensures.sent.0
          ∙ front_next _ c.args.session (view_of c.loop-moved.hive) (view_of c.take_notice.new.self) c.in-Some.notice taken
          ∙ ap (λ s. s ++ backlog_of c.args.session (view_of c.loop-moved.hive)) c.is_full.ensures.looked.1
          ∙ c.loop-moved.invariant.1,
      c.take_notice.ensures.noted ∙ c.loop-moved.invariant.2,
      c.take_notice.ensures.callbacks ∙ c.loop-moved.invariant.3,
    )
