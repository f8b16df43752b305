use Rattle.std.proofs.Common.{ap, Err, refl, length, sym, subst}
use Rattle.reg_model.specs.declared.call.Change.TheVariants.{SetValue as ValueSet}
use Rattle.reg_tree.specs.TreeKeys.{Keys}
use Rattle.reg_calls.specs.Internal.Stores.{IsUnchanged, KnowsKeys}
use Rattle.reg_calls.proofs.KnownKeys.{kept_known}
use Rattle.reg_calls.proofs.StoreAfterChange.{set-name, set-bytes, set-done, lacking, lacks_full, set-lacks}
use Rattle.reg_calls.proofs.set_value.SetValue.commit.Goals as goal

pub set_at-requires-clause-node : goal.set_at-requires-clause-node
set_at-requires-clause-node c = (_, c.requires.admitted.2.node)

pub set_at-requires-clause-place : goal.set_at-requires-clause-place
set_at-requires-clause-place c = c.requires.admitted.2.place

pub set_at-requires-clause-room : goal.set_at-requires-clause-room
set_at-requires-clause-room c = c.requires.admitted.2.room

pub set_at-requires-clause-name : goal.set_at-requires-clause-name
set_at-requires-clause-name c =
    let a = c.requires.admitted in
    set-name c.args.end c.args.store.now a.0 c.requires.ready a.1 c.args.self.name.now c.args.self.kind c.args.self.bytes.now a.2.clear

pub set_at-requires-clause-bytes : goal.set_at-requires-clause-bytes
set_at-requires-clause-bytes c =
    let a = c.requires.admitted in
    set-bytes c.args.end c.args.store.now a.0 c.requires.ready a.1 c.args.self.name.now c.args.self.kind c.args.self.bytes.now a.2.clear

pub returns-in-Ok : goal.returns-in-Ok
returns-in-Ok c = λ session handle a.
    set-done c.args.end c.args.store.now session c.requires.ready handle c.args.self.name.now c.args.self.kind c.args.self.bytes.now
    a.clear c.args.moment c.set_at.new.self (c.in-Ok.ensures.ok _ a.node) c.accepted.result
    c.accepted.ensures c.in-Ok.ensures.kept c.in-Ok.ensures.grows
    (kept_known c.args.store.now c.requires.ready.known c.set_at.new.self c.in-Ok.ensures.nodes)

pub returns-in-Err : goal.returns-in-Err
returns-in-Err c = λ session handle a.
    let same : IsUnchanged c.args.store.now (record { tree = c.set_at.new.self; handles = c.args.store.now.handles; watches = c.args.store.now.watches }) = record {
      tree = c.in-Err.ensures.err;
      handles = refl;
      watches = refl;
      known = subst (λ (keys : Keys). KnowsKeys (record { tree = keys; handles = c.args.store.now.handles; watches = c.args.store.now.watches })) (sym c.in-Err.ensures.err) c.requires.ready.known;
    } in
    lacking c.args.store.now _ session c.args.moment c.args.end (ValueSet handle c.args.self.name.now c.args.self.kind c.args.self.bytes.now) c.from.result same
    refl (λ space. (let full = lacks_full c.in-Err.fault c.from.result c.from.ensures space in (
      c.in-Err.ensures.full (ap (λ f. Err f) full),
      set-lacks c.args.store.now session handle c.args.self.node a.node c.args.self.name.now (length c.args.self.bytes.now) (c.in-Err.ensures.space full),
    )))
