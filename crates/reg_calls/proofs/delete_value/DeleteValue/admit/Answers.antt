use Rattle.std.proofs.Common.{arith, refl, sym, ap, ◌∙◌, subst, Option, ℕ, ◌≡◌, Some, is_some}
use Rattle.std.proofs.lemmas.Grind.{common_steps}
use Rattle.std.proofs.lemmas.Bool.Decides.{nat_tests}
use Rattle.reg_heap.specs.Paths.{Path}
use Rattle.reg_heap.specs.Edits.{values_at}
use Rattle.reg_heap.specs.Members.{index_named}
use Rattle.reg_calls.proofs.HandleLookUps.{target-at}
use Rattle.reg_tree.proofs.ValueChange.ValueAtPlace.{named_if}
use Rattle.reg_calls.proofs.FoundPaths.{found-at}
use Rattle.reg_model.specs.Worlds.{path_at}
use Rattle.reg_calls.specs.Internal.Askings.{status_by}
use Rattle.reg_calls.proofs.RefusalTests.{drop-refused, drop-causes, asked-at}
use Rattle.reg_calls.proofs.delete_value.DeleteValue.admit.Goals as goal

pub returns-in-Err-clause-refused : goal.returns-in-Err-clause-refused
returns-in-Err-clause-refused g c = drop-refused c.args.end c.args.store.now c.args.session c.args.handle
    (status_by g.C.Callback.answers c.args.asking.now c.args.store.now c.args.session c.args.handle) c.args.name.now c.in-Err.status c.in-Err.ensures

pub returns-then-is_err-clause-refused : goal.returns-then-is_err-clause-refused
returns-then-is_err-clause-refused g c =
    let status = status_by g.C.Callback.answers c.args.asking.now c.args.store.now c.args.session c.args.handle in
    let k = c.in-Ok.ensures in
    let chain = drop-causes c.args.end c.args.store.now c.args.session c.args.handle status c.args.name.now c.in-Ok.key.mask k.target k.mask in
    grind (arith, nat_tests, common_steps, chain)

pub returns-then-key-ne-SET_VALUE-clause-refused : goal.returns-then-key-ne-SET_VALUE-clause-refused
returns-then-key-ne-SET_VALUE-clause-refused g c =
    let status = status_by g.C.Callback.answers c.args.asking.now c.args.store.now c.args.session c.args.handle in
    let k = c.in-Ok.ensures in
    let chain = drop-causes c.args.end c.args.store.now c.args.session c.args.handle status c.args.name.now c.in-Ok.key.mask k.target k.mask in
    grind (arith, nat_tests, common_steps, chain)

pub returns-then-is_full-clause-refused : goal.returns-then-is_full-clause-refused
returns-then-is_full-clause-refused g c =
    let status = status_by g.C.Callback.answers c.args.asking.now c.args.store.now c.args.session c.args.handle in
    let k = c.in-Ok.ensures in
    let chain = drop-causes c.args.end c.args.store.now c.args.session c.args.handle status c.args.name.now c.in-Ok.key.mask k.target k.mask in
    grind (arith, nat_tests, common_steps, chain)

pub returns-in-None-clause-refused : goal.returns-in-None-clause-refused
returns-in-None-clause-refused g c =
    let status = status_by g.C.Callback.answers c.args.asking.now c.args.store.now c.args.session c.args.handle in
    let k = c.in-Ok.ensures in
    let chain = drop-causes c.args.end c.args.store.now c.args.session c.args.handle status c.args.name.now c.in-Ok.key.mask k.target k.mask in
    let lacks = sym (named_if c.args.name.now (values_at c.args.store.now.tree.tree k.target.path)) ∙ ap (λ (o : Option ℕ). is_some o) (sym (c.in-None.ensures k.target.path k.node)) in
    let asks = c.in-Ok-ask.ensures.ok (path_at c.args.session c.args.handle c.args.store.now.handles.handles)
    (asked-at c.args.store.now c.args.session c.args.handle c.in-Ok.ensures.target c.in-Ok.key.path.now c.in-Ok.ensures.path) in
    grind (arith, nat_tests, common_steps, chain, lacks, asks)

pub returns-in-Some-clause-admitted : goal.returns-in-Some-clause-admitted
returns-in-Some-clause-admitted g c =
    let k = c.in-Ok.ensures in
    let chain = drop-causes c.args.end c.args.store.now c.args.session c.args.handle 0 c.args.name.now c.in-Ok.key.mask k.target k.mask in
    let at = sym (c.in-Some.ensures k.target.path k.node) in
    let there = sym (named_if c.args.name.now (values_at c.args.store.now.tree.tree k.target.path)) ∙ ap (λ (o : Option ℕ). is_some o) at in
    record {
      clear = grind (arith, nat_tests, common_steps, chain, there);
      by = refl;
      node = found-at c.args.store.now c.args.session c.args.handle k.target c.in-Ok.key.node k.node;
      place = subst (λ (p : Path). index_named c.args.name.now (values_at c.args.store.now.tree.tree p) ≡ Some c.in-Some.index)
          (sym (target-at c.args.store.now c.args.session c.args.handle k.target)) at;
    }

pub returns-in-Err-ask-clause-refused : goal.returns-in-Err-ask-clause-refused
returns-in-Err-ask-clause-refused g c =
    let status = status_by g.C.Callback.answers c.args.asking.now c.args.store.now c.args.session c.args.handle in
    let k = c.in-Ok.ensures in
    let chain = drop-causes c.args.end c.args.store.now c.args.session c.args.handle status c.args.name.now c.in-Ok.key.mask k.target k.mask in
    let asks = c.in-Err-ask.ensures.err (path_at c.args.session c.args.handle c.args.store.now.handles.handles)
    (asked-at c.args.store.now c.args.session c.args.handle c.in-Ok.ensures.target c.in-Ok.key.path.now c.in-Ok.ensures.path) in
    grind (arith, nat_tests, common_steps, chain, asks)

pub returns-in-Some-clause-asked : goal.returns-in-Some-clause-asked
returns-in-Some-clause-asked g c =
    c.in-Ok-ask.ensures.ok (path_at c.args.session c.args.handle c.args.store.now.handles.handles)
    (asked-at c.args.store.now c.args.session c.args.handle c.in-Ok.ensures.target c.in-Ok.key.path.now c.in-Ok.ensures.path)
