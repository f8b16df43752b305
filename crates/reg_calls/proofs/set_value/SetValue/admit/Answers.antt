use Rattle.std.proofs.Common.{arith, refl, sym, ◌∙◌}
use Rattle.std.proofs.lemmas.Grind.{common_steps}
use Rattle.std.proofs.lemmas.Bool.Decides.{nat_tests}
use Rattle.reg_model.proofs.AcceptedCalls.{both_false}
use Rattle.reg_calls.proofs.FoundPaths.{found-at, has-room}
use Rattle.reg_model.specs.Worlds.{path_at}
use Rattle.reg_calls.specs.Internal.Askings.{status_by}
use Rattle.reg_calls.proofs.RefusalTests.{set-refused, set-causes, asked-at}
use Rattle.reg_calls.proofs.set_value.SetValue.admit.Goals as goal

pub returns-in-Err-clause-refused : goal.returns-in-Err-clause-refused
returns-in-Err-clause-refused g c = set-refused c.args.end c.args.store.now c.args.session c.args.handle
    (status_by g.C.Callback.answers c.args.asking.now c.args.store.now c.args.session c.args.handle) c.args.name.now c.args.bytes.now c.args.kind c.in-Err.status c.in-Err.ensures

pub returns-then-is_bad_value-clause-refused : goal.returns-then-is_bad_value-clause-refused
returns-then-is_bad_value-clause-refused g c =
    let status = status_by g.C.Callback.answers c.args.asking.now c.args.store.now c.args.session c.args.handle in
    let k = c.in-Ok.ensures in
    let chain = set-causes c.args.end c.args.store.now c.args.session c.args.handle status c.args.name.now c.args.bytes.now c.args.kind c.in-Ok.key.mask k.target k.mask in
    grind (arith, nat_tests, common_steps, chain)

pub returns-then-key-ne-SET_VALUE-clause-refused : goal.returns-then-key-ne-SET_VALUE-clause-refused
returns-then-key-ne-SET_VALUE-clause-refused g c =
    let status = status_by g.C.Callback.answers c.args.asking.now c.args.store.now c.args.session c.args.handle in
    let k = c.in-Ok.ensures in
    let chain = set-causes c.args.end c.args.store.now c.args.session c.args.handle status c.args.name.now c.args.bytes.now c.args.kind c.in-Ok.key.mask k.target k.mask in
    grind (arith, nat_tests, common_steps, chain)

pub returns-then-is_full-has_no_value_room-clause-refused : goal.returns-then-is_full-has_no_value_room-clause-refused
returns-then-is_full-has_no_value_room-clause-refused g c =
    let status = status_by g.C.Callback.answers c.args.asking.now c.args.store.now c.args.session c.args.handle in
    let k = c.in-Ok.ensures in
    let chain = set-causes c.args.end c.args.store.now c.args.session c.args.handle status c.args.name.now c.args.bytes.now c.args.kind c.in-Ok.key.mask k.target k.mask in
    let room = c.has_no_value_room.ensures k.target.path k.node c.args.name.now (c.value_index-place.ensures k.target.path k.node) in
    grind (arith, nat_tests, common_steps, chain, room)

pub returns-clause-admitted : goal.returns-clause-admitted
returns-clause-admitted g c =
    let k = c.in-Ok.ensures in
    let chain = set-causes c.args.end c.args.store.now c.args.session c.args.handle 0 c.args.name.now c.args.bytes.now c.args.kind c.in-Ok.key.mask k.target k.mask in
    let room = c.has_no_value_room.ensures k.target.path k.node c.args.name.now (c.value_index-place.ensures k.target.path k.node) in
    record {
      clear = grind (arith, nat_tests, common_steps, chain, room);
      by = refl;
      node = found-at c.args.store.now c.args.session c.args.handle k.target c.in-Ok.key.node k.node;
      place = c.value_index-place.ensures;
      room = λ p at none. has-room c.args.name.now _ c.value_index-place.result none (c.value_index-place.ensures p at)
          (sym (c.has_no_value_room.ensures p at c.args.name.now (c.value_index-place.ensures p at)) ∙ (both_false _ _ c.if-is_full-has_no_value_room.false).1);
    }

pub returns-in-Err-ask-clause-refused : goal.returns-in-Err-ask-clause-refused
returns-in-Err-ask-clause-refused g c =
    let status = status_by g.C.Callback.answers c.args.asking.now c.args.store.now c.args.session c.args.handle in
    let k = c.in-Ok.ensures in
    let chain = set-causes c.args.end c.args.store.now c.args.session c.args.handle status c.args.name.now c.args.bytes.now c.args.kind c.in-Ok.key.mask k.target k.mask in
    let room = c.has_no_value_room.ensures k.target.path k.node c.args.name.now (c.value_index-place.ensures k.target.path k.node) in
    let asks = c.in-Err-ask.ensures.err (path_at c.args.session c.args.handle c.args.store.now.handles.handles)
    (asked-at c.args.store.now c.args.session c.args.handle c.in-Ok.ensures.target c.in-Ok.key.path.now c.in-Ok.ensures.path) in
    grind (arith, nat_tests, common_steps, chain, room, asks)

pub returns-clause-asked : goal.returns-clause-asked
returns-clause-asked g c =
    c.in-Ok-ask.ensures.ok (path_at c.args.session c.args.handle c.args.store.now.handles.handles)
    (asked-at c.args.store.now c.args.session c.args.handle c.in-Ok.ensures.target c.in-Ok.key.path.now c.in-Ok.ensures.path)
