use Rattle.std.proofs.Common.{◌≡◌, sym, ◌∙◌, subst, None}
use Rattle.std.specs.FinMap.{get}
use Rattle.reg_heap.specs.Edits.{child_path}
use Rattle.reg_tree.specs.TreeKeys.{IsAt}
use Rattle.reg_tree.proofs.Invariant.CellReadings.{some_of}
use Rattle.reg_diff.proofs.ToldPaths.{one_name}
use Rattle.reg_copy.proofs.KeyRoom.{may-build, refused}
use Rattle.reg_copy.proofs.KeyParts.{good-name, small-copy, built-is}
use Rattle.reg_copy.proofs.keys.build.Goals as goal

pub reach-reached-requires-clause-path : goal.reach-reached-requires-clause-path
reach-reached-requires-clause-path c =
    let at = c.requires.there in
    let r = some_of _ (c.name-name.ensures.key at.0 at.1) in
    (one_name c.name-name.result.now (good-name c.name-name.result.now r.0 (c.name-name.ensures.told at.0 at.1 r.0 r.1) (c.root-root.ensures.limits.keys at.0 r.0 r.1))).valid

pub returns-then-is_limited-clause-err : goal.returns-then-is_limited-clause-err
returns-then-is_limited-clause-err c q there =
    let at = c.requires.there in
    let r = some_of _ (c.name-name.ensures.key at.0 at.1) in
    let told = c.name-name.ensures.told at.0 at.1 r.0 r.1 in
    refused c.args.target.now.tree q c.name-name.result.now (good-name c.name-name.result.now r.0 told (c.root-root.ensures.limits.keys at.0 r.0 r.1))
    (subst (λ n. get c.args.target.now.tree (child_path q n) ≡ None) (sym told) (c.requires.free at.0 q r.0 at.1 r.1 there))
    (sym (c.is_limited.ensures c.args.parent c.name-name.result.now c.reach-reached.ensures.reached q there) ∙ c.if-is_limited.true)

pub build_key-requires-clause-room : goal.build_key-requires-clause-room
build_key-requires-clause-room c q there =
    let at = c.requires.there in
    let r = some_of _ (c.name-name.ensures.key at.0 at.1) in
    let told = c.name-name.ensures.told at.0 at.1 r.0 r.1 in
    may-build c.args.target.now.tree q c.name-name.result.now (good-name c.name-name.result.now r.0 told (c.root-root.ensures.limits.keys at.0 r.0 r.1))
    (subst (λ n. get c.args.target.now.tree (child_path q n) ≡ None) (sym told) (c.requires.free at.0 q r.0 at.1 r.1 there))
    (sym (c.is_limited.ensures c.args.parent c.name-name.result.now c.reach-reached.ensures.reached q there) ∙ c.if-is_limited.false)

pub build_key-requires-clause-key : goal.build_key-requires-clause-key
build_key-requires-clause-key c =
    let at = c.requires.there in
    let r = some_of _ (c.name-name.ensures.key at.0 at.1) in
    small-copy r.0 (c.root-root.ensures.limits.keys at.0 r.0 r.1) c.name-name.result.now c.class.result.now c.descriptor.result.now c.args.marks
    c.time.result (c.name-name.ensures.told at.0 at.1 r.0 r.1)
    (c.class.ensures.told at.0 at.1 r.0 r.1) (c.descriptor.ensures.told at.0 at.1 r.0 r.1) c.requires.marks

pub returns-in-Ok-clause-ok : goal.returns-in-Ok-clause-ok
returns-in-Ok-clause-ok c p q r at e there =
    let told = c.name-name.ensures.told p at r e in
    let built = c.in-Ok.ensures.ok q there in
    record {
      tree = built-is c.build_key.new.self.tree c.args.target.now.tree q r c.name-name.result.now c.class.result.now c.descriptor.result.now c.args.marks
          c.time.result told (c.class.ensures.told p at r e) (c.descriptor.ensures.told p at r e) (c.time.ensures p at r e) built.0;
      at = subst (λ n. IsAt c.build_key.new.self (child_path q n) c.in-Ok.copy) told built.1;
      nodes = c.in-Ok.ensures.nodes;
    }
