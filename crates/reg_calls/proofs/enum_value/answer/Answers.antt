use Rattle.std.proofs.Common.{arith}
use Rattle.std.proofs.lemmas.Grind.{common_steps}
use Rattle.std.proofs.lemmas.Bool.Decides.{nat_tests}
use Rattle.reg_model.specs.declared.call.Query.TheVariants.{EnumValue}
use Rattle.reg_calls.specs.Internal.Stores.{at}
use Rattle.reg_model.specs.Worlds.{path_at}
use Rattle.reg_calls.specs.Internal.Askings.{status_by}
use Rattle.reg_calls.proofs.RefusalTests.{asked-at}
use Rattle.reg_calls.proofs.QueryAnswers.{refused, member-refused, member-causes, member-read, allowed_is}
use Rattle.reg_calls.proofs.enum_value.answer.Goals as goal

pub returns-in-Err : goal.returns-in-Err
returns-in-Err g c = λ n. member-refused n c.args.store.now c.args.session c.args.handle
    (status_by g.C.Callback.answers c.args.asking.now c.args.store.now c.args.session c.args.handle) c.args.index c.args.name_room c.args.room c.in-Err.status c.in-Err.ensures

pub returns-then-key-ne-QUERY_VALUE : goal.returns-then-key-ne-QUERY_VALUE
returns-then-key-ne-QUERY_VALUE g c = λ n.
    let status = status_by g.C.Callback.answers c.args.asking.now c.args.store.now c.args.session c.args.handle in
    let k = c.in-Ok.ensures in
    let chain = member-causes n c.args.store.now c.args.session c.args.handle status c.args.index c.args.name_room c.args.room c.in-Ok.key.mask k.target k.mask in
    refused (at n c.args.store.now) c.args.session status 5 (EnumValue c.args.handle c.args.index c.args.name_room c.args.room) (grind (arith, nat_tests, common_steps, chain))

pub returns : goal.returns
returns g c = λ n.
    let status = status_by g.C.Callback.answers c.args.asking.now c.args.store.now c.args.session c.args.handle in
    let k = c.in-Ok.ensures in
    let asks = c.in-Ok-ask.ensures.ok (path_at c.args.session c.args.handle c.args.store.now.handles.handles)
    (asked-at c.args.store.now c.args.session c.args.handle k.target c.in-Ok.key.path.now k.path) in
    member-read n c.args.store.now c.args.session c.args.handle status c.args.index c.args.name_room c.args.room c.in-Ok.key.mask k.target
    c.member_told.result k.mask (allowed_is c.in-Ok.key.mask c.if-key-ne-QUERY_VALUE.false) asks (c.member_told.ensures k.target.path k.node)

pub returns-in-Err-ask : goal.returns-in-Err-ask
returns-in-Err-ask g c = λ n.
    let status = status_by g.C.Callback.answers c.args.asking.now c.args.store.now c.args.session c.args.handle in
    let k = c.in-Ok.ensures in
    let asks = c.in-Err-ask.ensures.err (path_at c.args.session c.args.handle c.args.store.now.handles.handles)
    (asked-at c.args.store.now c.args.session c.args.handle k.target c.in-Ok.key.path.now k.path) in
    let chain = member-causes n c.args.store.now c.args.session c.args.handle status c.args.index c.args.name_room c.args.room c.in-Ok.key.mask k.target k.mask in
    refused (at n c.args.store.now) c.args.session status c.in-Err-ask.status (EnumValue c.args.handle c.args.index c.args.name_room c.args.room) (grind (arith, nat_tests, common_steps, chain, asks))
