use Rattle.std.proofs.Common.{subst}
use Rattle.reg_sessions.specs.Sessions.{Shape, AreInOrder}
use Rattle.reg_sessions.proofs.RegistryCuts.{made_at, refused_at}
use Rattle.reg_sessions.proofs.registry.Registry.checkpoint.Goals as goal

pub returns-in_err-image-clause-err : goal.returns-in_err-image-clause-err
returns-in_err-image-clause-err g c =
    let order = subst (λ (x : Shape). AreInOrder x.sessions c.args.sessions.now) c.self.view_is (c.are_in_order.ensures.0 c.if-not-are_in_order.false) in
    refused_at c.args.self.now c.args.hive c.args.sessions.now _ _ order c.checkpoint.ensures.admitted c.in_err-image.ensures.err c.from_residual.ensures.1

pub returns-clause-ok : goal.returns-clause-ok
returns-clause-ok g c =
    let order = subst (λ (x : Shape). AreInOrder x.sessions c.args.sessions.now) c.self.view_is (c.are_in_order.ensures.0 c.if-not-are_in_order.false) in
    made_at c.args.self.now c.args.hive c.args.sessions.now c.args.moment c.args.sequence _ order c.checkpoint.ensures.admitted c.in_ok-image.ensures.ok
