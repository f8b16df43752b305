use Rattle.std.proofs.Common.{◌≤◌, ◌+◌, ◌==◌, [], length, subst, sym, if◌then◌else◌}
use Rattle.reg_sessions.specs.Jobs.{notices_of_one}
use Rattle.reg_sessions.specs.Sessions.{waiting_at}
use Rattle.reg_sessions.specs.declared.job.Ask.{Ask}
use Rattle.reg_sessions.specs.declared.job.Done.TheVariants.{Notice}
use Rattle.reg_sessions.proofs.SessionPlaces.{known_wait}
use Rattle.reg_sessions.proofs.driving.do_one.Goals as goal

pub returns-in-TakeNotice-clause-waiting : goal.returns-in-TakeNotice-clause-waiting
returns-in-TakeNotice-clause-waiting g c = λ h.
    subst (λ (a : Ask). length (waiting_at h c.args.session.now) ≤
    length (waiting_at h c.take_notice.new.self) + length (if h == c.args.work.now.hive then notices_of_one a (Notice c.take_notice.result) else [])) (sym c.in-TakeNotice.is)
    (known_wait c.args.work.now.hive c.args.session.now c.take_notice.new.self c.take_notice.result c.take_notice.ensures.next c.take_notice.ensures.none
    c.take_notice.ensures.others h)
