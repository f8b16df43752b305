use Rattle.std.proofs.Common.{◌≡◌, true, arith}
use Rattle.std.proofs.lemmas.Grind.{common_steps}
use Rattle.std.proofs.lemmas.Bool.Decides.{nat_tests}
use Rattle.reg_names.specs.Names.{is_value_name}
use Rattle.reg_model.specs.declared.call.Query.TheVariants.{QueryValue}
use Rattle.reg_calls.specs.Internal.Stores.{at}
use Rattle.reg_model.specs.Worlds.{path_at}
use Rattle.reg_calls.specs.Internal.Askings.{status_by}
use Rattle.reg_calls.proofs.RefusalTests.{asked-at}
use Rattle.reg_calls.proofs.QueryAnswers.{refusal-due, value-refused, value-causes, value-read, allowed_is}
use Rattle.reg_calls.proofs.query_value.asked_key.Goals as goal

pub returns-in-Err-clause-refused : goal.returns-in-Err-clause-refused
returns-in-Err-clause-refused g c = λ n room. value-refused n c.args.store.now c.args.session c.args.handle
    (status_by g.C.Callback.answers c.args.asking.now c.args.store.now c.args.session c.args.handle) c.args.name.now room c.in-Err.status c.in-Err.ensures

pub returns-then-is_err-clause-refused : goal.returns-then-is_err-clause-refused
returns-then-is_err-clause-refused g c = λ n room.
    let status = status_by g.C.Callback.answers c.args.asking.now c.args.store.now c.args.session c.args.handle in
    let k = c.in-Ok.ensures in
    let chain = value-causes n c.args.store.now c.args.session c.args.handle status c.args.name.now room c.in-Ok.key.mask k.target k.mask in
    refusal-due (at n c.args.store.now) c.args.session status 87 (QueryValue c.args.handle c.args.name.now room) (grind (arith, nat_tests, common_steps, chain))

pub returns-then-key-ne-QUERY_VALUE-clause-refused : goal.returns-then-key-ne-QUERY_VALUE-clause-refused
returns-then-key-ne-QUERY_VALUE-clause-refused g c = λ n room.
    let status = status_by g.C.Callback.answers c.args.asking.now c.args.store.now c.args.session c.args.handle in
    let k = c.in-Ok.ensures in
    let chain = value-causes n c.args.store.now c.args.session c.args.handle status c.args.name.now room c.in-Ok.key.mask k.target k.mask in
    refusal-due (at n c.args.store.now) c.args.session status 5 (QueryValue c.args.handle c.args.name.now room) (grind (arith, nat_tests, common_steps, chain))

pub returns-in-Ok-ask-clause-asked : goal.returns-in-Ok-ask-clause-asked
returns-in-Ok-ask-clause-asked g c =
    let status = status_by g.C.Callback.answers c.args.asking.now c.args.store.now c.args.session c.args.handle in
    let k = c.in-Ok.ensures in
    let asks = c.in-Ok-ask.ensures.ok (path_at c.args.session c.args.handle c.args.store.now.handles.handles)
    (asked-at c.args.store.now c.args.session c.args.handle k.target c.in-Ok.key.path.now k.path) in
    let named : is_value_name c.args.name.now ≡ true = grind (arith, common_steps) in (
      k.target.path,
      k.node,
      λ n room. value-read n c.args.store.now c.args.session c.args.handle status c.args.name.now room c.in-Ok.key.mask k.target k.mask named
          (allowed_is c.in-Ok.key.mask c.if-key-ne-QUERY_VALUE.false) asks,
    )

pub returns-in-Err-ask-clause-refused : goal.returns-in-Err-ask-clause-refused
returns-in-Err-ask-clause-refused g c = λ n room.
    let status = status_by g.C.Callback.answers c.args.asking.now c.args.store.now c.args.session c.args.handle in
    let k = c.in-Ok.ensures in
    let asks = c.in-Err-ask.ensures.err (path_at c.args.session c.args.handle c.args.store.now.handles.handles)
    (asked-at c.args.store.now c.args.session c.args.handle k.target c.in-Ok.key.path.now k.path) in
    let chain = value-causes n c.args.store.now c.args.session c.args.handle status c.args.name.now room c.in-Ok.key.mask k.target k.mask in
    refusal-due (at n c.args.store.now) c.args.session status c.in-Err-ask.status (QueryValue c.args.handle c.args.name.now room) (grind (arith, nat_tests, common_steps, chain, asks))
