use Rattle.std.proofs.Common.{arith}
use Rattle.std.proofs.lemmas.Grind.{common_steps}
use Rattle.std.proofs.lemmas.Bool.Decides.{nat_tests}
use Rattle.reg_model.specs.Worlds.{path_at}
use Rattle.reg_calls.specs.Internal.Askings.{status_by}
use Rattle.reg_calls.proofs.RefusalTests.{open-causes, asked-at}
use Rattle.reg_calls.proofs.open_key.OpenKey.find.Goals as goal

pub returns-in-Err-clause-refused : goal.returns-in-Err-clause-refused
returns-in-Err-clause-refused g c = c.in-Err.ensures.open c.args.path.now c.args.mask
    (status_by g.C.Callback.answers c.args.asking.now c.args.store.now c.args.session c.args.handle) c.is_bad_open.ensures

pub returns-in-Err-ask-clause-refused : goal.returns-in-Err-ask-clause-refused
returns-in-Err-ask-clause-refused g c =
    let status = status_by g.C.Callback.answers c.args.asking.now c.args.store.now c.args.session c.args.handle in
    let k = c.in-Ok.ensures.key in
    let bad = c.is_bad_open.ensures in
    let good = c.in-Ok.ensures.good in
    let room = c.in-Ok.ensures.room in
    let chain = open-causes c.args.end c.args.store.now c.args.session c.args.handle status c.args.path.now c.args.mask k.target in
    let asks = c.in-Err-ask.ensures.err (path_at c.args.session c.args.handle c.args.store.now.handles.handles)
    (asked-at c.args.store.now c.args.session c.args.handle k.target c.in-Ok.key.path.now k.path) in
    grind (arith, nat_tests, common_steps, chain, bad, good, room, asks)

pub returns-in_default-clause-refused : goal.returns-in_default-clause-refused
returns-in_default-clause-refused g c =
    let status = status_by g.C.Callback.answers c.args.asking.now c.args.store.now c.args.session c.args.handle in
    let k = c.in-Ok.ensures.key in
    let bad = c.is_bad_open.ensures in
    let good = c.in-Ok.ensures.good in
    let room = c.in-Ok.ensures.room in
    let chain = open-causes c.args.end c.args.store.now c.args.session c.args.handle status c.args.path.now c.args.mask k.target in
    let none = c.in_default.ensures.found k.target.path k.node in
    let asks = c.in-Ok-ask.ensures.ok (path_at c.args.session c.args.handle c.args.store.now.handles.handles)
    (asked-at c.args.store.now c.args.session c.args.handle k.target c.in-Ok.key.path.now k.path) in
    grind (arith, nat_tests, common_steps, chain, bad, good, room, none, asks)

pub returns-clause-clear : goal.returns-clause-clear
returns-clause-clear g c =
    let k = c.in-Ok.ensures.key in
    let bad = c.is_bad_open.ensures in
    let good = c.in-Ok.ensures.good in
    let room = c.in-Ok.ensures.room in
    let chain = open-causes c.args.end c.args.store.now c.args.session c.args.handle 0 c.args.path.now c.args.mask k.target in
    let there = (c.in-Some.ensures.found k.target.path k.node).1 in
    grind (arith, nat_tests, common_steps, chain, bad, good, room, there)

pub returns-clause-asked : goal.returns-clause-asked
returns-clause-asked g c =
    c.in-Ok-ask.ensures.ok (path_at c.args.session c.args.handle c.args.store.now.handles.handles)
    (asked-at c.args.store.now c.args.session c.args.handle c.in-Ok.ensures.key.target c.in-Ok.key.path.now c.in-Ok.ensures.key.path)
