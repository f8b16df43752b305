use Rattle.std.proofs.Common.{arith}
use Rattle.std.proofs.lemmas.Grind.{common_steps}
use Rattle.std.proofs.lemmas.Bool.Decides.{nat_tests}
use Rattle.reg_model.specs.declared.call.Query.TheVariants.{GetSecurity}
use Rattle.reg_calls.specs.Internal.Stores.{at}
use Rattle.reg_model.specs.Worlds.{path_at}
use Rattle.reg_calls.specs.Internal.Askings.{status_by}
use Rattle.reg_calls.proofs.RefusalTests.{asked-at}
use Rattle.reg_calls.proofs.QueryAnswers.{refused, told, security-refused, security-causes, security-due}
use Rattle.reg_calls.proofs.get_security.answer.Goals as goal

pub returns-in-Err : goal.returns-in-Err
returns-in-Err g c = λ n. security-refused n c.args.store.now c.args.session c.args.handle
    (status_by g.C.Callback.answers c.args.asking.now c.args.store.now c.args.session c.args.handle) c.args.room c.in-Err.status c.in-Err.ensures

pub returns-then-key-ne-READ_CONTROL : goal.returns-then-key-ne-READ_CONTROL
returns-then-key-ne-READ_CONTROL g c = λ n.
    let status = status_by g.C.Callback.answers c.args.asking.now c.args.store.now c.args.session c.args.handle in
    let k = c.in-Ok.ensures in
    let chain = security-causes n c.args.store.now c.args.session c.args.handle status c.args.room c.in-Ok.key.mask k.target k.mask in
    refused (at n c.args.store.now) c.args.session status 5 (GetSecurity c.args.handle c.args.room) (grind (arith, nat_tests, common_steps, chain))

pub returns : goal.returns
returns g c = λ n.
    let status = status_by g.C.Callback.answers c.args.asking.now c.args.store.now c.args.session c.args.handle in
    let k = c.in-Ok.ensures in
    let asks = c.in-Ok-ask.ensures.ok (path_at c.args.session c.args.handle c.args.store.now.handles.handles)
    (asked-at c.args.store.now c.args.session c.args.handle k.target c.in-Ok.key.path.now k.path) in
    let chain = security-causes n c.args.store.now c.args.session c.args.handle status c.args.room c.in-Ok.key.mask k.target k.mask in
    let due = security-due n c.args.store.now c.args.session c.args.handle 0 c.args.room k.target in
    told (at n c.args.store.now) c.args.session status (GetSecurity c.args.handle c.args.room) _ c.descriptor_answer.result
    (grind (arith, nat_tests, common_steps, chain, asks)) due (c.descriptor_answer.ensures k.target.path k.node)

pub returns-in-Err-ask : goal.returns-in-Err-ask
returns-in-Err-ask g c = λ n.
    let status = status_by g.C.Callback.answers c.args.asking.now c.args.store.now c.args.session c.args.handle in
    let k = c.in-Ok.ensures in
    let asks = c.in-Err-ask.ensures.err (path_at c.args.session c.args.handle c.args.store.now.handles.handles)
    (asked-at c.args.store.now c.args.session c.args.handle k.target c.in-Ok.key.path.now k.path) in
    let chain = security-causes n c.args.store.now c.args.session c.args.handle status c.args.room c.in-Ok.key.mask k.target k.mask in
    refused (at n c.args.store.now) c.args.session status c.in-Err-ask.status (GetSecurity c.args.handle c.args.room) (grind (arith, nat_tests, common_steps, chain, asks))
