use Rattle.std.proofs.Common.{◌≡◌, ℕ, not, bit_and, arith, refl, sym, ap, ◌∙◌, subst}
use Rattle.std.proofs.lemmas.Grind.{common_steps}
use Rattle.std.proofs.lemmas.Bool.Decides.{nat_tests}
use Rattle.reg_model.specs.Worlds.{path_at}
use Rattle.reg_calls.specs.Internal.Askings.{status_by}
use Rattle.reg_calls.proofs.RefusalTests.{tree-refused, tree-causes, tree-clear, asked-at}
use Rattle.reg_calls.proofs.delete_tree.DeleteTree.find.Goals as goal

pub returns-in-Err-clause-refused : goal.returns-in-Err-clause-refused
returns-in-Err-clause-refused g c = tree-refused c.args.end c.args.store.now c.args.session c.args.handle
    (status_by g.C.Callback.answers c.args.asking.now c.args.store.now c.args.session c.args.handle) c.args.path.now c.in-Err.status c.in-Err.ensures

pub returns-then-is_err-clause-refused : goal.returns-then-is_err-clause-refused
returns-then-is_err-clause-refused g c =
    let status = status_by g.C.Callback.answers c.args.asking.now c.args.store.now c.args.session c.args.handle in
    let k = c.in-Ok.ensures in
    let chain = tree-causes c.args.end c.args.store.now c.args.session c.args.handle status c.args.path.now c.in-Ok.key.mask k.target k.mask in
    grind (arith, nat_tests, common_steps, chain)

pub returns-then-key-asked-clause-refused : goal.returns-then-key-asked-clause-refused
returns-then-key-asked-clause-refused g c =
    let status = status_by g.C.Callback.answers c.args.asking.now c.args.store.now c.args.session c.args.handle in
    let k = c.in-Ok.ensures in
    let chain = tree-causes c.args.end c.args.store.now c.args.session c.args.handle status c.args.path.now c.in-Ok.key.mask k.target k.mask in
    grind (arith, nat_tests, common_steps, chain)

pub returns-then-is_full-clause-refused : goal.returns-then-is_full-clause-refused
returns-then-is_full-clause-refused g c =
    let status = status_by g.C.Callback.answers c.args.asking.now c.args.store.now c.args.session c.args.handle in
    let k = c.in-Ok.ensures in
    let chain = tree-causes c.args.end c.args.store.now c.args.session c.args.handle status c.args.path.now c.in-Ok.key.mask k.target k.mask in
    grind (arith, nat_tests, common_steps, chain)

pub returns-in-Err-ask-clause-refused : goal.returns-in-Err-ask-clause-refused
returns-in-Err-ask-clause-refused g c =
    let status = status_by g.C.Callback.answers c.args.asking.now c.args.store.now c.args.session c.args.handle in
    let k = c.in-Ok.ensures in
    let chain = tree-causes c.args.end c.args.store.now c.args.session c.args.handle status c.args.path.now c.in-Ok.key.mask k.target k.mask in
    let asks = c.in-Err-ask.ensures.err (path_at c.args.session c.args.handle c.args.store.now.handles.handles)
    (asked-at c.args.store.now c.args.session c.args.handle k.target c.in-Ok.key.path.now k.path) in
    grind (arith, nat_tests, common_steps, chain, asks)

pub returns-in-Err-find_target-clause-refused : goal.returns-in-Err-find_target-clause-refused
returns-in-Err-find_target-clause-refused g c =
    let status = status_by g.C.Callback.answers c.args.asking.now c.args.store.now c.args.session c.args.handle in
    let k = c.in-Ok.ensures in
    let chain = tree-causes c.args.end c.args.store.now c.args.session c.args.handle status c.args.path.now c.in-Ok.key.mask k.target k.mask in
    let kept = c.in-Err-find_target.ensures.refused k.target.path k.node in
    let asks = c.in-Ok-ask.ensures.ok (path_at c.args.session c.args.handle c.args.store.now.handles.handles)
    (asked-at c.args.store.now c.args.session c.args.handle k.target c.in-Ok.key.path.now k.path) in
    grind (arith, nat_tests, common_steps, chain, kept, asks)

pub returns-in-Ok-find_target-clause-clear : goal.returns-in-Ok-find_target-clause-clear
returns-in-Ok-find_target-clause-clear g c =
    let k = c.in-Ok.ensures in
    tree-clear c.args.end c.args.store.now c.args.session c.args.handle 0 c.args.path.now c.in-Ok.key.mask k.target k.mask
    (sym c.check_path.ensures.valid ∙ c.is_err.ensures.negation ∙ ap not c.if-is_err.false)
    (subst (λ (r : ℕ). bit_and c.in-Ok.key.mask r ≡ r) c.rights-asked.ensures c.if-key-asked.false) (sym c.is_full.ensures ∙ c.if-is_full.false)
    (c.in-Ok-find_target.ensures.clear k.target.path k.node) refl

pub returns-in-Ok-find_target-clause-asked : goal.returns-in-Ok-find_target-clause-asked
returns-in-Ok-find_target-clause-asked g c =
    c.in-Ok-ask.ensures.ok (path_at c.args.session c.args.handle c.args.store.now.handles.handles)
    (asked-at c.args.store.now c.args.session c.args.handle c.in-Ok.ensures.target c.in-Ok.key.path.now c.in-Ok.ensures.path)
