use Rattle.std.proofs.Common.{sym, subst}
use Rattle.reg_calls.specs.Internal.Stores.{at, IsTarget}
use Rattle.reg_model.proofs.AcceptedCalls.{secure-met}
use Rattle.reg_calls.proofs.AnnouncedChanges.{target-of, announced-at, secure-announced}
use Rattle.reg_calls.proofs.set_security.SetSecurity.announce.Goals as goal

pub event_of-requires-clause-target : goal.event_of-requires-clause-target
event_of-requires-clause-target c =
    let a = c.requires.2 in
    let m = secure-met (at c.requires.0 c.args.store.now) c.args.session c.requires.1 _ 0 a.clear in
    subst (IsTarget c.args.store.now c.args.session) (sym a.by) (target-of c.args.store.now c.args.session c.requires.1 m.target)

pub returns : goal.returns
returns c = λ end handle a.
    secure-announced end c.args.store.now c.args.session handle _ c.event_of.result c.event_of.ensures.kinds
    (announced-at c.args.store.now c.args.session c.args.self.now.handle handle a.by _ c.event_of.result c.event_of.ensures.ends)
