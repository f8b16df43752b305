use Rattle.std.proofs.Common.{ap, refl, sym, subst, ℕ}
use Rattle.reg_names.specs.Names.{path_of}
use Rattle.reg_heap.specs.Paths.{Path}
use Rattle.reg_model.specs.Worlds.{numbered}
use Rattle.reg_tree.specs.TreeKeys.{IsAt}
use Rattle.reg_tree.specs.declared.node.Node.{Node}
use Rattle.reg_handles.specs.HandleTables.{Table, IsLeadingTo}
use Rattle.reg_calls.specs.Internal.Admissions.{IsOwnKey, IsTextOf}
use Rattle.reg_calls.proofs.FoundPaths.{some-part, none-part}
use Rattle.reg_calls.proofs.HandleLookUps.{target-leads, target-own}
use Rattle.reg_calls.proofs.KnownKeys.{added_known, beside_known, unchanged, store_of}
use Rattle.reg_calls.proofs.StoreAfterChange.{open-room, open-done}
use Rattle.reg_calls.proofs.open_key.OpenKey.commit.Goals as goal

-- ---- the handle's own key

pub add_beside-requires-clause-room : goal.add_beside-requires-clause-room
add_beside-requires-clause-room c =
    let a = c.requires.admitted in
    open-room c.args.end c.args.store.now c.args.session c.requires.ready a.0 a.1 c.args.self.mask a.2.clear

pub add_beside-requires-clause-leads : goal.add_beside-requires-clause-leads
add_beside-requires-clause-leads c =
    let a = c.requires.admitted in
    let own = none-part _ c.in_default.is (IsOwnKey c.args.store.now c.args.session a.0 a.1) (λ text. IsTextOf c.args.store.now c.args.session a.0 a.1 text.items) a.2.text in (
      own.target.path,
      subst (λ (n : ℕ). IsLeadingTo own.target.path (numbered n c.args.store.now.handles.handles)) (sym a.2.by) (target-leads c.args.store.now c.args.session a.0 own.target),
    )

pub returns-in-Err : goal.returns-in-Err
returns-in-Err c = λ moment handle path a.
    (unchanged c.args.store.now _ c.requires.ready.known (ap (λ (t : Table Node). store_of c.args.store.now.watches c.args.store.now.tree t) c.in-Err.ensures.err), refl)

pub returns-in-Ok : goal.returns-in-Ok
returns-in-Ok c = λ moment handle path a.
    let own = none-part _ c.in_default.is (IsOwnKey c.args.store.now c.args.session handle path) (λ text. IsTextOf c.args.store.now c.args.session handle path text.items) a.text in
    let leads =
    subst (λ (n : ℕ). IsLeadingTo own.target.path (numbered n c.args.store.now.handles.handles)) (sym a.by) (target-leads c.args.store.now c.args.session handle own.target) in
    open-done c.args.end c.args.store.now c.args.session c.requires.ready handle path c.args.self.mask a.clear moment
    c.add_beside.new.self own.target.path (target-own c.args.store.now c.args.session handle own.target path own.empty)
    (c.in-Ok.ensures.ok own.target.path leads) c.opened.result c.opened.ensures
    (beside_known c.args.store.now c.requires.ready.known c.add_beside.new.self c.in-Ok.ensures.payloads)

-- ---- a key below it

pub add-requires-clause-room : goal.add-requires-clause-room
add-requires-clause-room c =
    let a = c.requires.admitted in
    open-room c.args.end c.args.store.now c.args.session c.requires.ready a.0 a.1 c.args.self.mask a.2.clear

pub add-requires-clause-path : goal.add-requires-clause-path
add-requires-clause-path c =
    let a = c.requires.admitted in
    (some-part _ _ c.in-Some.is (IsOwnKey c.args.store.now c.args.session a.0 a.1) (λ text. IsTextOf c.args.store.now c.args.session a.0 a.1 text.items) a.2.text).valid

pub add-requires-clause-folded : goal.add-requires-clause-folded
add-requires-clause-folded c =
    let a = c.requires.admitted in
    (some-part _ _ c.in-Some.is (IsOwnKey c.args.store.now c.args.session a.0 a.1) (λ text. IsTextOf c.args.store.now c.args.session a.0 a.1 text.items) a.2.text).folded

pub returns-in-Err-add : goal.returns-in-Err-add
returns-in-Err-add c = λ moment handle path a.
    (unchanged c.args.store.now _ c.requires.ready.known (ap (λ (t : Table Node). store_of c.args.store.now.watches c.args.store.now.tree t) c.in-Err-add.ensures.err), refl)

pub returns-in-Ok-add : goal.returns-in-Ok-add
returns-in-Ok-add c = λ moment handle path a.
    let below = some-part _ _ c.in-Some.is (IsOwnKey c.args.store.now c.args.session handle path) (λ text. IsTextOf c.args.store.now c.args.session handle path text.items) a.text in
    open-done c.args.end c.args.store.now c.args.session c.requires.ready handle path c.args.self.mask a.clear moment
    c.add.new.self (path_of c.in-Some.text.items) below.names c.in-Ok-add.ensures.ok c.opened-in-Ok-add.result c.opened-in-Ok-add.ensures
    (added_known c.args.store.now c.requires.ready.known c.add.new.self c.in-Some.text.items c.args.self.node c.in-Ok-add.ensures.payloads
    (subst (λ (p : Path). IsAt c.args.store.now.tree p c.args.self.node) (sym below.names) a.node))
