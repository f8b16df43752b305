use Rattle.std.proofs.Common.{◌≡◌, true, is_some, List, subst, refl, sym, ap, ◌∙◌, Some, Err}
use Rattle.std.specs.Option.{option_copied}
use Rattle.reg_names.specs.Names.{path_of}
use Rattle.reg_heap.specs.Paths.{Path}
use Rattle.reg_model.specs.Worlds.{Handle, At, look, numbered, closed}
use Rattle.reg_model.specs.declared.call.Change.TheVariants.{CreateKey as KeyCreated}
use Rattle.reg_tree.specs.TreeKeys.{Keys, IsAt}
use Rattle.reg_tree.specs.declared.node.Node.{Node}
use Rattle.reg_handles.specs.HandleTables.{Table}
use Rattle.reg_calls.specs.Internal.Stores.{KnowsKeys, IsUnchanged}
use Rattle.reg_calls.proofs.FoundPaths.{is-empty, not-empty}
use Rattle.reg_calls.proofs.KnownKeys.{added_known, made_known, again_known, unchanged, store_of}
use Rattle.reg_calls.proofs.TableAndLimitLemmas.{look-push, closed-push, numbered-new}
use Rattle.reg_calls.proofs.StoreAfterChange.{create-room, create-given, create-done, create-there, made-disposition, made-changed, lacking, lacks_full}
use Rattle.reg_calls.proofs.create_key.CreateKey.commit.Goals as goal

pub add-requires-clause-room : goal.add-requires-clause-room
add-requires-clause-room c =
    let a = c.requires.admitted in
    create-room c.args.end c.args.store.now c.args.session c.requires.ready a.0 a.1 c.args.self.mask (option_copied c.args.self.descriptor) a.2.clear

pub add-requires-clause-path : goal.add-requires-clause-path
add-requires-clause-path c = c.requires.admitted.2.text.valid

pub add-requires-clause-folded : goal.add-requires-clause-folded
add-requires-clause-folded c = c.requires.admitted.2.text.folded

pub returns-in-Err : goal.returns-in-Err
returns-in-Err c = λ handle path a.
    (unchanged c.args.store.now _ c.requires.ready.known (ap (λ (t : Table Node). store_of c.args.store.now.watches c.args.store.now.tree t) c.in-Err.ensures.err), refl)

pub returns-then-is_empty : goal.returns-then-is_empty
returns-then-is_empty c = λ handle path a.
    let none = is-empty _ c.is_empty.result c.is_empty.ensures c.if-is_empty.true in
    create-there c.args.end c.args.store.now c.args.session c.requires.ready handle path c.args.self.mask (option_copied c.args.self.descriptor) a.clear
    c.args.self.reached.missing.now a.missing none c.args.moment
    c.add.new.self c.args.self.text.items a.text.names c.in-Ok.ensures.ok c.opened.result c.opened.ensures
    (added_known c.args.store.now c.requires.ready.known c.add.new.self c.args.self.text.items c.args.self.reached.node c.in-Ok.ensures.payloads
    (subst (λ (p : Path). IsAt c.args.store.now.tree p c.args.self.reached.node) (sym a.text.names) (a.there none)))

pub create_at-requires-clause-reached : goal.create_at-requires-clause-reached
create_at-requires-clause-reached c = let a = c.requires.admitted.2 in (a.from, c.requires.admitted.1, a.reached, (_, a.at))

pub create_at-requires-clause-missing : goal.create_at-requires-clause-missing
create_at-requires-clause-missing c = not-empty _ c.is_empty.result c.is_empty.ensures c.if-is_empty.false

pub create_at-requires-clause-given : goal.create_at-requires-clause-given
create_at-requires-clause-given c =
    let a = c.requires.admitted in
    create-given c.args.end c.args.store.now c.args.session c.requires.ready c.args.self.descriptor (λ d. d.now) a.0 a.1 c.args.self.mask a.2.clear

pub create_at-requires-clause-few : goal.create_at-requires-clause-few
create_at-requires-clause-few c = c.requires.admitted.2.few

pub close-requires : goal.close-requires
close-requires c =
    let hs = c.args.store.now.handles.handles in
    subst (λ (x : List Handle). is_some (look c.args.session c.args.end.next x) ≡ true) (sym c.in-Ok.ensures.ok) (look-push c.args.session c.args.end.next hs c.requires.ready.below _ refl refl)

pub returns-in-Ok-create_at : goal.returns-in-Ok-create_at
returns-in-Ok-create_at c = λ handle path a.
    let some = not-empty _ c.is_empty.result c.is_empty.ensures c.if-is_empty.false in
    let made = c.in-Ok-create_at.ensures.ok a.from path a.reached _ a.at in
    let added : Handle = record { number = c.args.end.next; session = c.args.session; mask = c.args.self.mask; destination = At (path_of c.args.self.text.items) } in
    let numbered-last : numbered c.args.end.next c.add.new.self.handles ≡ Some added =
    ap (numbered c.args.end.next) c.in-Ok.ensures.ok ∙ numbered-new c.args.end.next c.args.store.now.handles.handles c.requires.ready.below added refl in
    let told = c.opened-in-Ok-create_at.ensures ∙
    made-disposition c.args.end c.args.store.now c.args.session c.requires.ready handle path c.args.self.mask (option_copied c.args.self.descriptor) a.clear
    c.args.self.reached.missing.now a.missing some in
    create-done c.args.end c.args.store.now c.args.session c.requires.ready handle path c.args.self.mask (option_copied c.args.self.descriptor) a.clear
    c.args.moment c.create_at.new.self c.set_payload.new.self c.args.self.text.items a.text.names
    made.tree (c.set_payload.ensures.handles ∙ c.in-Ok.ensures.ok) c.opened-in-Ok-create_at.result told
    (made-changed c.args.end c.args.store.now c.args.session c.requires.ready handle path c.args.self.mask (option_copied c.args.self.descriptor) a.clear
    c.opened-in-Ok-create_at.result c.opened-in-Ok-create_at.ensures)
    c.in-Ok-create_at.ensures.kept c.in-Ok-create_at.ensures.grows
    (made_known c.args.store.now c.requires.ready.known c.add.new.self c.args.self.text.items c.args.self.reached.node c.in-Ok.ensures.payloads
    c.create_at.new.self made.nodes c.args.end.next added numbered-last refl c.in-Ok-create_at.node
    (subst (λ (p : Path). IsAt c.create_at.new.self p c.in-Ok-create_at.node) (sym a.text.names) made.last) c.set_payload.new.self c.set_payload.ensures.payloads)

pub returns-in-Err-create_at : goal.returns-in-Err-create_at
returns-in-Err-create_at c = λ handle path a.
    let hs = c.args.store.now.handles.handles in
    let handles = c.close.ensures.handles ∙ (ap (closed c.args.end.next) c.in-Ok.ensures.ok ∙ closed-push c.args.end.next hs c.requires.ready.below _ refl) in
    let again = again_known c.args.store.now c.requires.ready.known c.add.new.self c.args.self.text.items c.args.self.reached.node c.in-Ok.ensures.payloads
    c.close.new.self c.len.ensures.payloads handles c.close.ensures.payloads in
    let same : IsUnchanged c.args.store.now (record { tree = c.create_at.new.self; handles = c.close.new.self; watches = c.args.store.now.watches }) = record {
      tree = c.in-Err-create_at.ensures.err;
      handles = handles;
      watches = refl;
      known = subst (λ (keys : Keys). KnowsKeys (record { tree = keys; handles = c.close.new.self; watches = c.args.store.now.watches })) (sym c.in-Err-create_at.ensures.err) again;
    } in
    lacking c.args.store.now _ c.args.session c.args.moment c.args.end (KeyCreated handle path c.args.self.mask (option_copied c.args.self.descriptor)) c.from.result same
    refl (λ space. (let full = lacks_full c.in-Err-create_at.fault c.from.result c.from.ensures space in (
      c.in-Err-create_at.ensures.full (ap (λ f. Err f) full),
      c.in-Err-create_at.ensures.space a.from path a.reached _ a.at full,
    )))
