use Rattle.std.proofs.Common.{ap, ◌∙◌, Some, None, refl}
use Rattle.zugmeled.proofs.Turns.{noticed}
use Rattle.zugmeled.proofs.notices.zug_take_notice.Goals as goal

pub returns-in_default-notice : goal.returns-in_default-notice
returns-in_default-notice c =
    noticed c.args.hive.now.held.value c.put-2.new.self.held.value c.deref_mut.result.now c.take_notice-notice.new.self
    (ap Some c.deref_mut.ensures.value ∙ c.in-Some.ensures.hive) c.put-2.ensures c.args.session 259 0 0 0 None
    c.if-session-ge-SESSIONS_LIMIT.false c.in_default-notice.ensures.notice (refl, refl, refl, refl)

pub returns : goal.returns
returns c =
    noticed c.args.hive.now.held.value c.put-2.new.self.held.value c.deref_mut.result.now c.take_notice-notice.new.self
    (ap Some c.deref_mut.ensures.value ∙ c.in-Some.ensures.hive) c.put-2.ensures c.args.session 0 c.in-Some-notice.notice.watch
    c.in-Some-notice.notice.by c.reason_told.result (Some c.in-Some-notice.notice) c.if-session-ge-SESSIONS_LIMIT.false
    c.in-Some-notice.ensures.notice (refl, refl, refl, c.reason_told.ensures)
