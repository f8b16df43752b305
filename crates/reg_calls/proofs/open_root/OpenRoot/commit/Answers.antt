use Rattle.std.proofs.Common.{ap, refl, sym, subst, ℕ, List}
use Rattle.reg_names.specs.Names.{are_key_names, is_path, path_of}
use Rattle.reg_tree.specs.TreeKeys.{IsAt}
use Rattle.reg_tree.specs.declared.node.Node.{Node}
use Rattle.reg_handles.specs.HandleTables.{Table}
use Rattle.reg_calls.proofs.KnownKeys.{added_known, unchanged, store_of}
use Rattle.reg_calls.proofs.StoreAfterChange.{root-room, root-done}
use Rattle.reg_calls.proofs.open_root.OpenRoot.commit.Goals as goal

pub add-requires-clause-room : goal.add-requires-clause-room
add-requires-clause-room c = root-room c.args.end c.args.store.now c.args.session c.requires.ready c.args.self.mask c.requires.clear

pub add-requires-clause-path : goal.add-requires-clause-path
unfolding are_key_names
add-requires-clause-path c = ap is_path c.new.ensures.items

pub returns-in-Err : goal.returns-in-Err
returns-in-Err c = λ moment.
    (unchanged c.args.store.now _ c.requires.ready.known (ap (λ (t : Table Node). store_of c.args.store.now.watches c.args.store.now.tree t) c.in-Err.ensures.err), refl)

pub returns-in-Ok : goal.returns-in-Ok
returns-in-Ok c = λ moment.
    root-done c.args.end c.args.store.now c.args.session c.requires.ready moment c.args.self.mask c.add.new.self _ c.new.ensures.items c.in-Ok.ensures.ok
    c.opened.result c.opened.ensures (added_known c.args.store.now c.requires.ready.known c.add.new.self c.new.result.items c.root-root.result c.in-Ok.ensures.payloads
    (subst (λ (text : List ℕ). IsAt c.args.store.now.tree (path_of text) c.root-root.result) (sym c.new.ensures.items) c.root-root.ensures.at))
