use Rattle.std.proofs.Common.{arith, refl}
use Rattle.std.proofs.lemmas.Grind.{common_steps}
use Rattle.std.proofs.lemmas.Bool.Decides.{nat_tests}
use Rattle.reg_calls.proofs.FoundPaths.{found-at}
use Rattle.reg_model.specs.Worlds.{path_at}
use Rattle.reg_calls.specs.Internal.Askings.{status_by}
use Rattle.reg_calls.proofs.RefusalTests.{secure-refused, secure-causes, asked-at}
use Rattle.reg_calls.proofs.set_security.SetSecurity.admit.Goals as goal

pub returns-in-Err-clause-refused : goal.returns-in-Err-clause-refused
returns-in-Err-clause-refused g c = secure-refused c.args.end c.args.store.now c.args.session c.args.handle
    (status_by g.C.Callback.answers c.args.asking.now c.args.store.now c.args.session c.args.handle) c.args.descriptor.now c.in-Err.status c.in-Err.ensures

pub returns-then-is_bad_descriptor-clause-refused : goal.returns-then-is_bad_descriptor-clause-refused
returns-then-is_bad_descriptor-clause-refused g c =
    let status = status_by g.C.Callback.answers c.args.asking.now c.args.store.now c.args.session c.args.handle in
    let k = c.in-Ok.ensures in
    let chain = secure-causes c.args.end c.args.store.now c.args.session c.args.handle status c.args.descriptor.now c.in-Ok.key.mask k.target k.mask in
    grind (arith, nat_tests, common_steps, chain)

pub returns-then-key-ne-WRITE_DAC-clause-refused : goal.returns-then-key-ne-WRITE_DAC-clause-refused
returns-then-key-ne-WRITE_DAC-clause-refused g c =
    let status = status_by g.C.Callback.answers c.args.asking.now c.args.store.now c.args.session c.args.handle in
    let k = c.in-Ok.ensures in
    let chain = secure-causes c.args.end c.args.store.now c.args.session c.args.handle status c.args.descriptor.now c.in-Ok.key.mask k.target k.mask in
    grind (arith, nat_tests, common_steps, chain)

pub returns-then-is_full-clause-refused : goal.returns-then-is_full-clause-refused
returns-then-is_full-clause-refused g c =
    let status = status_by g.C.Callback.answers c.args.asking.now c.args.store.now c.args.session c.args.handle in
    let k = c.in-Ok.ensures in
    let chain = secure-causes c.args.end c.args.store.now c.args.session c.args.handle status c.args.descriptor.now c.in-Ok.key.mask k.target k.mask in
    grind (arith, nat_tests, common_steps, chain)

pub returns-clause-admitted : goal.returns-clause-admitted
returns-clause-admitted g c =
    let k = c.in-Ok.ensures in
    let chain = secure-causes c.args.end c.args.store.now c.args.session c.args.handle 0 c.args.descriptor.now c.in-Ok.key.mask k.target k.mask in
    record {
      clear = grind (arith, nat_tests, common_steps, chain);
      by = refl;
      node = found-at c.args.store.now c.args.session c.args.handle k.target c.in-Ok.key.node k.node;
    }

pub returns-in-Err-ask-clause-refused : goal.returns-in-Err-ask-clause-refused
returns-in-Err-ask-clause-refused g c =
    let status = status_by g.C.Callback.answers c.args.asking.now c.args.store.now c.args.session c.args.handle in
    let k = c.in-Ok.ensures in
    let chain = secure-causes c.args.end c.args.store.now c.args.session c.args.handle status c.args.descriptor.now c.in-Ok.key.mask k.target k.mask in
    let asks = c.in-Err-ask.ensures.err (path_at c.args.session c.args.handle c.args.store.now.handles.handles)
    (asked-at c.args.store.now c.args.session c.args.handle c.in-Ok.ensures.target c.in-Ok.key.path.now c.in-Ok.ensures.path) in
    grind (arith, nat_tests, common_steps, chain, asks)

pub returns-clause-asked : goal.returns-clause-asked
returns-clause-asked g c =
    c.in-Ok-ask.ensures.ok (path_at c.args.session c.args.handle c.args.store.now.handles.handles)
    (asked-at c.args.store.now c.args.session c.args.handle c.in-Ok.ensures.target c.in-Ok.key.path.now c.in-Ok.ensures.path)
