use Rattle.std.proofs.Common.{ap, ◌∙◌, Some}
use Rattle.zugmeled.proofs.Turns.{changed}
use Rattle.zugmeled.proofs.calls.change.Goals as goal

pub returns : goal.returns
returns c =
    changed c.args.hive.now.held.value c.put-2.new.self.held.value c.deref_mut.result.now c.apply-reply.new.self
    (ap Some c.deref_mut.ensures.value ∙ c.in-Some.ensures.hive) c.put-2.ensures c.args.session c.args.moment c.args.change c.apply-reply.result
    c.if-session-ge-SESSIONS_LIMIT.false c.apply-reply.ensures.applied
