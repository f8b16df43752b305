use Rattle.std.proofs.Common.{arith, sym, ◌∙◌}
use Rattle.std.proofs.lemmas.Grind.{common_steps}
use Rattle.std.proofs.lemmas.Bool.Decides.{nat_tests}
use Rattle.reg_calls.proofs.FoundPaths.{target-names, is-empty, not-empty}
use Rattle.reg_model.specs.Worlds.{path_at}
use Rattle.reg_calls.specs.Internal.Askings.{status_by}
use Rattle.reg_calls.proofs.RefusalTests.{delete-refused, delete-causes, asked-at}
use Rattle.reg_calls.proofs.delete_key.DeleteKey.find.Goals as goal

pub returns-in-Err-clause-refused : goal.returns-in-Err-clause-refused
returns-in-Err-clause-refused g c = delete-refused c.args.end c.args.store.now c.args.session c.args.handle
    (status_by g.C.Callback.answers c.args.asking.now c.args.store.now c.args.session c.args.handle) c.args.path.now c.in-Err.status c.in-Err.ensures

pub returns-then-is_bad_target-clause-refused : goal.returns-then-is_bad_target-clause-refused
returns-then-is_bad_target-clause-refused g c =
    let status = status_by g.C.Callback.answers c.args.asking.now c.args.store.now c.args.session c.args.handle in
    let k = c.in-Ok.ensures in
    let chain = delete-causes c.args.end c.args.store.now c.args.session c.args.handle status c.args.path.now k.target in
    grind (arith, nat_tests, common_steps, chain)

pub returns-then-is_full-clause-refused : goal.returns-then-is_full-clause-refused
returns-then-is_full-clause-refused g c =
    let status = status_by g.C.Callback.answers c.args.asking.now c.args.store.now c.args.session c.args.handle in
    let k = c.in-Ok.ensures in
    let chain = delete-causes c.args.end c.args.store.now c.args.session c.args.handle status c.args.path.now k.target in
    grind (arith, nat_tests, common_steps, chain)

pub returns-in-Err-ask-clause-refused : goal.returns-in-Err-ask-clause-refused
returns-in-Err-ask-clause-refused g c =
    let status = status_by g.C.Callback.answers c.args.asking.now c.args.store.now c.args.session c.args.handle in
    let k = c.in-Ok.ensures in
    let chain = delete-causes c.args.end c.args.store.now c.args.session c.args.handle status c.args.path.now k.target in
    let asks = c.in-Err-ask.ensures.err (path_at c.args.session c.args.handle c.args.store.now.handles.handles)
    (asked-at c.args.store.now c.args.session c.args.handle k.target c.in-Ok.key.path.now k.path) in
    grind (arith, nat_tests, common_steps, chain, asks)

pub returns-then-not-is_empty-clause-refused : goal.returns-then-not-is_empty-clause-refused
returns-then-not-is_empty-clause-refused g c =
    let status = status_by g.C.Callback.answers c.args.asking.now c.args.store.now c.args.session c.args.handle in
    let k = c.in-Ok.ensures in
    let chain = delete-causes c.args.end c.args.store.now c.args.session c.args.handle status c.args.path.now k.target in
    let none = c.reach-reached.ensures.absent k.target.path k.node (not-empty _ c.is_empty.result c.is_empty.ensures c.if-not-is_empty.true) in
    let asks = c.in-Ok-ask.ensures.ok (path_at c.args.session c.args.handle c.args.store.now.handles.handles)
    (asked-at c.args.store.now c.args.session c.args.handle k.target c.in-Ok.key.path.now k.path) in
    grind (arith, nat_tests, common_steps, chain, none, asks)

pub may_not_go-requires : goal.may_not_go-requires
may_not_go-requires g c =
    let k = c.in-Ok.ensures in
    (_, (c.reach-reached.ensures.there k.target.path k.node (is-empty _ c.is_empty.result c.is_empty.ensures c.if-not-is_empty.false)).0)

pub returns-then-may_not_go-clause-refused : goal.returns-then-may_not_go-clause-refused
returns-then-may_not_go-clause-refused g c =
    let status = status_by g.C.Callback.answers c.args.asking.now c.args.store.now c.args.session c.args.handle in
    let k = c.in-Ok.ensures in
    let chain = delete-causes c.args.end c.args.store.now c.args.session c.args.handle status c.args.path.now k.target in
    let found = c.reach-reached.ensures.there k.target.path k.node (is-empty _ c.is_empty.result c.is_empty.ensures c.if-not-is_empty.false) in
    let there = found.1 in
    let kept = c.may_not_go.ensures _ found.0 in
    let asks = c.in-Ok-ask.ensures.ok (path_at c.args.session c.args.handle c.args.store.now.handles.handles)
    (asked-at c.args.store.now c.args.session c.args.handle k.target c.in-Ok.key.path.now k.path) in
    grind (arith, nat_tests, common_steps, chain, there, kept, asks)

pub returns-clause-clear : goal.returns-clause-clear
returns-clause-clear g c =
    let k = c.in-Ok.ensures in
    let chain = delete-causes c.args.end c.args.store.now c.args.session c.args.handle 0 c.args.path.now k.target in
    let found = c.reach-reached.ensures.there k.target.path k.node (is-empty _ c.is_empty.result c.is_empty.ensures c.if-not-is_empty.false) in
    let there = found.1 in
    let kept = c.may_not_go.ensures _ found.0 in
    grind (arith, nat_tests, common_steps, chain, there, kept)

pub returns-clause-asked : goal.returns-clause-asked
returns-clause-asked g c =
    c.in-Ok-ask.ensures.ok (path_at c.args.session c.args.handle c.args.store.now.handles.handles)
    (asked-at c.args.store.now c.args.session c.args.handle c.in-Ok.ensures.target c.in-Ok.key.path.now c.in-Ok.ensures.path)

pub returns-clause-found : goal.returns-clause-found
returns-clause-found g c =
    let none = is-empty _ c.is_empty.result c.is_empty.ensures c.if-not-is_empty.false in
    record {
      walked = c.reach-reached.ensures.reached;
      below = target-names c.args.path.now (sym c.is_bad_target.ensures ∙ c.if-is_bad_target.false);
      there = none;
      goes = λ p at. sym (c.may_not_go.ensures p at) ∙ c.if-may_not_go.false;
      node = λ p at. c.reach-reached.ensures.there p at none;
    }
