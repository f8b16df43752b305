use Rattle.std.proofs.Common.{arith, inl}
use Rattle.std.proofs.lemmas.Grind.{common_steps}
use Rattle.std.proofs.lemmas.Bool.Decides.{nat_tests}
use Rattle.reg_model.specs.declared.call.Query.TheVariants.{QueryInfo}
use Rattle.reg_calls.specs.Internal.Stores.{at}
use Rattle.reg_model.specs.Worlds.{path_at}
use Rattle.reg_calls.specs.Internal.Askings.{status_by}
use Rattle.reg_calls.proofs.RefusalTests.{asked-at}
use Rattle.reg_calls.proofs.QueryAnswers.{refused, told, info-refused, info-causes, info-due}
use Rattle.reg_calls.proofs.query_info.answer.Goals as goal

pub returns-in-Err : goal.returns-in-Err
returns-in-Err g c = λ n. info-refused n c.args.store.now c.args.session c.args.handle
    (status_by g.C.Callback.answers c.args.asking.now c.args.store.now c.args.session c.args.handle) c.in-Err.status c.in-Err.ensures

pub returns-then-key-ne-QUERY_VALUE : goal.returns-then-key-ne-QUERY_VALUE
returns-then-key-ne-QUERY_VALUE g c = λ n.
    let status = status_by g.C.Callback.answers c.args.asking.now c.args.store.now c.args.session c.args.handle in
    let k = c.in-Ok.ensures in
    let chain = info-causes n c.args.store.now c.args.session c.args.handle status c.in-Ok.key.mask k.target k.mask in
    refused (at n c.args.store.now) c.args.session status 5 (QueryInfo c.args.handle) (grind (arith, nat_tests, common_steps, chain))

pub returns : goal.returns
returns g c = λ n.
    let status = status_by g.C.Callback.answers c.args.asking.now c.args.store.now c.args.session c.args.handle in
    let k = c.in-Ok.ensures in
    let asks = c.in-Ok-ask.ensures.ok (path_at c.args.session c.args.handle c.args.store.now.handles.handles)
    (asked-at c.args.store.now c.args.session c.args.handle k.target c.in-Ok.key.path.now k.path) in
    let chain = info-causes n c.args.store.now c.args.session c.args.handle status c.in-Ok.key.mask k.target k.mask in
    let due = info-due n c.args.store.now c.args.session c.args.handle 0 k.target in
    told (at n c.args.store.now) c.args.session status (QueryInfo c.args.handle) _ c.info.result (grind (arith, nat_tests, common_steps, chain, asks)) due (inl (c.info.ensures k.target.path k.node))

pub returns-in-Err-ask : goal.returns-in-Err-ask
returns-in-Err-ask g c = λ n.
    let status = status_by g.C.Callback.answers c.args.asking.now c.args.store.now c.args.session c.args.handle in
    let k = c.in-Ok.ensures in
    let asks = c.in-Err-ask.ensures.err (path_at c.args.session c.args.handle c.args.store.now.handles.handles)
    (asked-at c.args.store.now c.args.session c.args.handle k.target c.in-Ok.key.path.now k.path) in
    let chain = info-causes n c.args.store.now c.args.session c.args.handle status c.in-Ok.key.mask k.target k.mask in
    refused (at n c.args.store.now) c.args.session status c.in-Err-ask.status (QueryInfo c.args.handle) (grind (arith, nat_tests, common_steps, chain, asks))
