use Rattle.std.proofs.Common.{arith, sym, ◌∙◌}
use Rattle.std.specs.Option.{option_copied}
use Rattle.std.proofs.lemmas.Grind.{common_steps}
use Rattle.std.proofs.lemmas.Bool.Decides.{nat_tests}
use Rattle.reg_model.specs.Worlds.{path_at}
use Rattle.reg_calls.specs.Internal.Askings.{status_by}
use Rattle.reg_calls.proofs.RefusalTests.{create-causes, asked-at}
use Rattle.reg_calls.proofs.create_key.CreateKey.find.Goals as goal

pub returns-in-Err-clause-refused : goal.returns-in-Err-clause-refused
returns-in-Err-clause-refused g c = c.in-Err.ensures.create c.args.path.now c.args.mask
    (status_by g.C.Callback.answers c.args.asking.now c.args.store.now c.args.session c.args.handle) (option_copied c.args.descriptor) c.is_bad_create-is_bad.ensures

pub is_limited-requires : goal.is_limited-requires
is_limited-requires g c = let k = c.in-Ok.ensures.key in record { reached = (c.in-Ok.key.node, c.args.path.now, c.reach-reached.ensures.reached, (k.target.path, k.node)) }

pub returns-then-is_limited-clause-refused : goal.returns-then-is_limited-clause-refused
returns-then-is_limited-clause-refused g c =
    let status = status_by g.C.Callback.answers c.args.asking.now c.args.store.now c.args.session c.args.handle in
    let k = c.in-Ok.ensures.key in
    let bad = c.is_bad_create-is_bad.ensures in
    let good = c.in-Ok.ensures.good in
    let room = c.in-Ok.ensures.room in
    let chain = create-causes c.args.end c.args.store.now c.args.session c.args.handle status c.args.path.now c.args.mask (option_copied c.args.descriptor) k.target in
    let many = c.is_limited.ensures c.in-Ok.key.node c.args.path.now c.reach-reached.ensures.reached k.target.path k.node in
    grind (arith, nat_tests, common_steps, chain, bad, good, room, many)

pub returns-in-Err-ask-clause-refused : goal.returns-in-Err-ask-clause-refused
returns-in-Err-ask-clause-refused g c =
    let status = status_by g.C.Callback.answers c.args.asking.now c.args.store.now c.args.session c.args.handle in
    let k = c.in-Ok.ensures.key in
    let bad = c.is_bad_create-is_bad.ensures in
    let good = c.in-Ok.ensures.good in
    let room = c.in-Ok.ensures.room in
    let chain = create-causes c.args.end c.args.store.now c.args.session c.args.handle status c.args.path.now c.args.mask (option_copied c.args.descriptor) k.target in
    let many = c.is_limited.ensures c.in-Ok.key.node c.args.path.now c.reach-reached.ensures.reached k.target.path k.node in
    let asks = c.in-Err-ask.ensures.err (path_at c.args.session c.args.handle c.args.store.now.handles.handles)
    (asked-at c.args.store.now c.args.session c.args.handle k.target c.in-Ok.key.path.now k.path) in
    grind (arith, nat_tests, common_steps, chain, bad, good, room, many, asks)

pub returns-clause-clear : goal.returns-clause-clear
returns-clause-clear g c =
    let k = c.in-Ok.ensures.key in
    let bad = c.is_bad_create-is_bad.ensures in
    let good = c.in-Ok.ensures.good in
    let room = c.in-Ok.ensures.room in
    let chain = create-causes c.args.end c.args.store.now c.args.session c.args.handle 0 c.args.path.now c.args.mask (option_copied c.args.descriptor) k.target in
    let many = c.is_limited.ensures c.in-Ok.key.node c.args.path.now c.reach-reached.ensures.reached k.target.path k.node in
    let few = sym many ∙ c.if-is_limited.false in
    grind (arith, nat_tests, common_steps, chain, bad, good, room, few)

pub returns-clause-asked : goal.returns-clause-asked
returns-clause-asked g c =
    c.in-Ok-ask.ensures.ok (path_at c.args.session c.args.handle c.args.store.now.handles.handles)
    (asked-at c.args.store.now c.args.session c.args.handle c.in-Ok.ensures.key.target c.in-Ok.key.path.now c.in-Ok.ensures.key.path)

pub returns-clause-found : goal.returns-clause-found
returns-clause-found g c = record {
  walked = c.reach-reached.ensures.reached;
  missing = c.reach-reached.ensures.missing;
  few = λ start text is p at. sym (c.is_limited.ensures start text is p at) ∙ c.if-is_limited.false;
  there = λ p at none. (c.reach-reached.ensures.there p at none).0;
}
