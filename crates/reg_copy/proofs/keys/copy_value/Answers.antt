use Rattle.std.proofs.Common.{◌≡◌, ◌<◌, ◌≤◌, sym, ap, ◌∙◌, subst, None, true, length, ℕ, List, inr, refl}
use Rattle.reg_heap.specs.declared.limits.TheConstants.{VALUES_LIMIT, DATA_LIMIT}
use Rattle.reg_heap.specs.Edits.{values_at}
use Rattle.reg_heap.specs.Members.{index_named}
use Rattle.reg_heap.specs.Paths.{Member}
use Rattle.reg_heap.specs.Trees.{IsSmallValue}
use Rattle.reg_names.specs.Names.{is_value_name}
use Rattle.reg_tree_text.proofs.SentTexts.{err_exits}
use Rattle.reg_copy.proofs.FrontValues.{at-index}
use Rattle.reg_copy.proofs.KeyParts.{next-member, no-place, some-room, value-set, not-full}
use Rattle.reg_copy.proofs.keys.copy_value.Goals as goal

pub returns-in_err-value-clause-err : goal.returns-in_err-value-clause-err
returns-in_err-value-clause-err c = err_exits _ c.from_residual.result _ c.from_residual.ensures.1 (inr refl)

pub returns-in_err-value-clause-full : goal.returns-in_err-value-clause-full
returns-in_err-value-clause-full c = λ e. absurd (not-full c.from_residual.result c.from_residual.ensures.1 e)

pub set_at-requires-clause-place : goal.set_at-requires-clause-place
set_at-requires-clause-place c q there =
    let f = c.requires.front in
    let v = c.requires.value in
    let n = next-member c.args.source.now.tree f.0 v.0 f.2 c.args.index (c.root.ensures.one_path v.0 f.0 c.args.node v.1 f.3) f.4 v.2 in
    subst (λ x. None ≡ index_named c.in_ok-value.value.name.now (values_at c.args.target.now.tree x))
    (c.root-2.ensures.one_path f.1 q c.args.copy f.5 there)
    (no-place c.args.target.now.tree f.1 f.2 f.6.0 c.args.index f.6.1 n.0 n.1 (c.root.ensures.tree.apart f.0 f.2 f.4) c.in_ok-value.value.name.now
    (ap (λ (m : Member). m.name) (c.in_ok-value.ensures f.0 f.3 n.0 n.2)))

pub set_at-requires-clause-room : goal.set_at-requires-clause-room
set_at-requires-clause-room c q there none =
    let f = c.requires.front in
    let v = c.requires.value in
    let n = next-member c.args.source.now.tree f.0 v.0 f.2 c.args.index (c.root.ensures.one_path v.0 f.0 c.args.node v.1 f.3) f.4 v.2 in
    subst (λ x. length (values_at c.args.target.now.tree x) < VALUES_LIMIT) (c.root-2.ensures.one_path f.1 q c.args.copy f.5 there)
    (some-room c.args.target.now.tree f.1 f.2 f.6.0 c.args.index f.6.1 n.0 n.1 n.3 (c.root.ensures.limits.keys f.0 f.2 f.4).few)

pub set_at-requires-clause-name : goal.set_at-requires-clause-name
set_at-requires-clause-name c =
    let f = c.requires.front in
    let v = c.requires.value in
    let n = next-member c.args.source.now.tree f.0 v.0 f.2 c.args.index (c.root.ensures.one_path v.0 f.0 c.args.node v.1 f.3) f.4 v.2 in
    subst (λ (x : List ℕ). is_value_name x ≡ true) (sym (ap (λ (m : Member). m.name) (c.in_ok-value.ensures f.0 f.3 n.0 n.2)))
    (at-index IsSmallValue f.2.values c.args.index n.0 (c.root.ensures.limits.keys f.0 f.2 f.4).values n.1).name

pub set_at-requires-clause-bytes : goal.set_at-requires-clause-bytes
set_at-requires-clause-bytes c =
    let f = c.requires.front in
    let v = c.requires.value in
    let n = next-member c.args.source.now.tree f.0 v.0 f.2 c.args.index (c.root.ensures.one_path v.0 f.0 c.args.node v.1 f.3) f.4 v.2 in
    subst (λ (x : List ℕ). length x ≤ DATA_LIMIT)
    (sym (c.as_slice-bytes.ensures.value ∙ ap (λ (m : Member). m.bytes) (c.in_ok-value.ensures f.0 f.3 n.0 n.2)))
    (at-index IsSmallValue f.2.values c.args.index n.0 (c.root.ensures.limits.keys f.0 f.2 f.4).values n.1).bytes

pub returns-in-Ok-clause-ok : goal.returns-in-Ok-clause-ok
returns-in-Ok-clause-ok c p q r marks at e there told =
    let v = c.requires.value in
    let n = next-member c.args.source.now.tree p v.0 r c.args.index (c.root.ensures.one_path v.0 p c.args.node v.1 at) e v.2 in
    value-set c.args.target.now.tree q r marks c.args.index told n.0 n.1 (c.root.ensures.tree.apart p r e) c.set_at.new.self.tree
    c.in_ok-value.value.name.now c.as_slice-bytes.result.now c.in_ok-value.value.kind c.time-moment.result
    (ap (λ (bytes : List ℕ). record { name = c.in_ok-value.value.name.now; kind = c.in_ok-value.value.kind; bytes = bytes })
    c.as_slice-bytes.ensures.value
    ∙ c.in_ok-value.ensures p at n.0 n.2)
    (c.time-moment.ensures p at r e) (c.in-Ok.ensures.ok q there)
