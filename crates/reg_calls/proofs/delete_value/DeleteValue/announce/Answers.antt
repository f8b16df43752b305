use Rattle.std.proofs.Common.{sym, subst}
use Rattle.reg_calls.specs.Internal.Stores.{at, IsTarget}
use Rattle.reg_model.proofs.AcceptedCalls.{drop-met}
use Rattle.reg_calls.proofs.AnnouncedChanges.{target-of, announced-at, drop-announced}
use Rattle.reg_calls.proofs.delete_value.DeleteValue.announce.Goals as goal

pub event_of-requires-clause-target : goal.event_of-requires-clause-target
event_of-requires-clause-target c =
    let a = c.requires.3 in
    let m = drop-met (at c.requires.0 c.args.store.now) c.args.session c.requires.1 c.requires.2 0 a.clear in
    subst (IsTarget c.args.store.now c.args.session) (sym a.by) (target-of c.args.store.now c.args.session c.requires.1 m.target)

pub returns : goal.returns
returns c = λ end handle name a.
    drop-announced end c.args.store.now c.args.session handle name c.event_of.result c.event_of.ensures.kinds
    (announced-at c.args.store.now c.args.session c.args.self.now.handle handle a.by _ c.event_of.result c.event_of.ensures.ends)
