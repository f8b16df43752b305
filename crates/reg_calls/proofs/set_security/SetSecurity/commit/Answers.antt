use Rattle.std.proofs.Common.{ap, Err, refl, sym, subst}
use Rattle.reg_model.specs.declared.call.Change.TheVariants.{SetSecurity as SecuritySet}
use Rattle.reg_tree.specs.TreeKeys.{Keys}
use Rattle.reg_calls.specs.Internal.Stores.{IsUnchanged, KnowsKeys}
use Rattle.reg_calls.proofs.KnownKeys.{kept_known}
use Rattle.reg_calls.proofs.StoreAfterChange.{secure-described, secure-done, lacking, lacks_full}
use Rattle.reg_calls.proofs.set_security.SetSecurity.commit.Goals as goal

pub set_security-requires-clause-node : goal.set_security-requires-clause-node
set_security-requires-clause-node c = (_, c.requires.admitted.2.node)

pub set_security-requires-clause-descriptor : goal.set_security-requires-clause-descriptor
set_security-requires-clause-descriptor c =
    let a = c.requires.admitted in
    secure-described c.args.end c.args.store.now a.0 c.requires.ready a.1 c.args.self.descriptor.now a.2.clear

pub returns-in-Ok : goal.returns-in-Ok
returns-in-Ok c = λ session handle a.
    secure-done c.args.end c.args.store.now session c.requires.ready handle c.args.self.descriptor.now a.clear c.args.moment c.set_security.new.self
    (c.in-Ok.ensures.ok _ a.node) c.accepted.result c.accepted.ensures c.in-Ok.ensures.kept c.in-Ok.ensures.grows
    (kept_known c.args.store.now c.requires.ready.known c.set_security.new.self c.in-Ok.ensures.nodes)

pub returns-in-Err : goal.returns-in-Err
returns-in-Err c = λ session handle a.
    let same : IsUnchanged c.args.store.now (record { tree = c.set_security.new.self; handles = c.args.store.now.handles; watches = c.args.store.now.watches }) = record {
      tree = c.in-Err.ensures.err;
      handles = refl;
      watches = refl;
      known = subst (λ (keys : Keys). KnowsKeys (record { tree = keys; handles = c.args.store.now.handles; watches = c.args.store.now.watches })) (sym c.in-Err.ensures.err) c.requires.ready.known;
    } in
    lacking c.args.store.now _ session c.args.moment c.args.end (SecuritySet handle c.args.self.descriptor.now) c.from.result same
    refl (λ space. (let full = lacks_full c.in-Err.fault c.from.result c.from.ensures space in (c.in-Err.ensures.full (ap (λ f. Err f) full), c.in-Err.ensures.space full)))
