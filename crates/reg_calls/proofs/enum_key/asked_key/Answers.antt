use Rattle.std.proofs.Common.{arith}
use Rattle.std.proofs.lemmas.Grind.{common_steps}
use Rattle.std.proofs.lemmas.Bool.Decides.{nat_tests}
use Rattle.reg_model.specs.declared.call.Query.TheVariants.{EnumKey}
use Rattle.reg_calls.specs.Internal.Stores.{at}
use Rattle.reg_model.specs.Worlds.{path_at}
use Rattle.reg_calls.specs.Internal.Askings.{status_by}
use Rattle.reg_calls.proofs.RefusalTests.{asked-at}
use Rattle.reg_calls.proofs.QueryAnswers.{refusal-due, key-refused, key-causes, key-read, enumerable_is}
use Rattle.reg_calls.proofs.enum_key.asked_key.Goals as goal

pub returns-in-Err-clause-refused : goal.returns-in-Err-clause-refused
returns-in-Err-clause-refused g c = λ n index room. key-refused n c.args.store.now c.args.session c.args.handle
    (status_by g.C.Callback.answers c.args.asking.now c.args.store.now c.args.session c.args.handle) index room c.in-Err.status c.in-Err.ensures

pub returns-then-key-ne-ENUMERATE_SUB_KEYS-clause-refused : goal.returns-then-key-ne-ENUMERATE_SUB_KEYS-clause-refused
returns-then-key-ne-ENUMERATE_SUB_KEYS-clause-refused g c = λ n index room.
    let status = status_by g.C.Callback.answers c.args.asking.now c.args.store.now c.args.session c.args.handle in
    let k = c.in-Ok.ensures in
    let chain = key-causes n c.args.store.now c.args.session c.args.handle status index room c.in-Ok.key.mask k.target k.mask in
    refusal-due (at n c.args.store.now) c.args.session status 5 (EnumKey c.args.handle index room) (grind (arith, nat_tests, common_steps, chain))

pub returns-in-Ok-ask-clause-asked : goal.returns-in-Ok-ask-clause-asked
returns-in-Ok-ask-clause-asked g c =
    let status = status_by g.C.Callback.answers c.args.asking.now c.args.store.now c.args.session c.args.handle in
    let k = c.in-Ok.ensures in
    let asks = c.in-Ok-ask.ensures.ok (path_at c.args.session c.args.handle c.args.store.now.handles.handles)
    (asked-at c.args.store.now c.args.session c.args.handle k.target c.in-Ok.key.path.now k.path) in (
      k.target.path,
      k.node,
      λ n index room body is. key-read n c.args.store.now c.args.session c.args.handle status index room c.in-Ok.key.mask k.target body k.mask
          (enumerable_is c.in-Ok.key.mask c.if-key-ne-ENUMERATE_SUB_KEYS.false) asks is,
    )

pub returns-in-Err-ask-clause-refused : goal.returns-in-Err-ask-clause-refused
returns-in-Err-ask-clause-refused g c = λ n index room.
    let status = status_by g.C.Callback.answers c.args.asking.now c.args.store.now c.args.session c.args.handle in
    let k = c.in-Ok.ensures in
    let asks = c.in-Err-ask.ensures.err (path_at c.args.session c.args.handle c.args.store.now.handles.handles)
    (asked-at c.args.store.now c.args.session c.args.handle k.target c.in-Ok.key.path.now k.path) in
    let chain = key-causes n c.args.store.now c.args.session c.args.handle status index room c.in-Ok.key.mask k.target k.mask in
    refusal-due (at n c.args.store.now) c.args.session status c.in-Err-ask.status (EnumKey c.args.handle index room) (grind (arith, nat_tests, common_steps, chain, asks))
