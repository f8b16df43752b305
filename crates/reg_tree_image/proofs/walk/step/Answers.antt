use Rattle.std.proofs.Common.{reverse, List}
use Rattle.reg_arena.specs.Cells.{cell_at}
use Rattle.reg_tree_image.specs.declared.frames.KeyFrame.{KeyFrame}
use Rattle.reg_tree_image.specs.Internal.Stacks.{IsWalking, IsRootCrowded, FailsAs}
use Rattle.reg_tree_image.proofs.KeyStacks.StackEnds.{if_err, pushed, pushed-twice}
use Rattle.reg_tree_image.proofs.KeyStacks.WalkTurns.{few-built, read-at, walking-left, walking-list, walking-list-fails, walking-key, walking-key-fails}
use Rattle.reg_tree_image.proofs.walk.step.Goals as goal

pub returns-in_err-below-clause-err : goal.returns-in_err-below-clause-err
returns-in_err-below-clause-err c root whole w =
    if_err (λ fault. FailsAs (IsRootCrowded c.args.building.ahead (cell_at c.args.bins.now) c.args.minor root) fault whole) c.from_residual.result _ c.from_residual.ensures.1
    (walking-key-fails _ _ _ root whole c.args.lowest (reverse c.args.keys.now.items) _ c.begin_key.new.table.states.items _ w
    (record { offset = c.in-Some.offset; hint = c.in-Some.ensures.next.0 })
    c.take.new.self c.in-Some.ensures.next.1 c.if-key-ge-SUBKEYS_LIMIT.false c.begin_key.new.tree _ c.in_err-below.ensures.begins)

pub returns-in-Some-clause-ok : goal.returns-in-Some-clause-ok
returns-in-Some-clause-ok c root whole w =
    let states = c.begin_key.new.table.states.items in
    pushed-twice (λ (ks : List KeyFrame). IsWalking c.args.building.ahead (cell_at c.args.bins.now) c.args.minor root whole ks states c.begin_key.new.tree)
    c.args.keys.now.items _ _ _ c.in_ok-below.below _ c.in_ok-push.ensures.ok c.push-in-Some.ensures.ok
    (walking-key _ _ _ root whole c.args.lowest (reverse c.args.keys.now.items) _ states _ w
    (record { offset = c.in-Some.offset; hint = c.in-Some.ensures.next.0 })
    c.take.new.self c.in-Some.ensures.next.1 c.if-key-ge-SUBKEYS_LIMIT.false c.in_ok-below.below c.begin_key.new.tree
    c.in_ok-below.ensures.nodes c.in_ok-below.ensures.begins)

pub returns-in_err-key-clause-err : goal.returns-in_err-key-clause-err
returns-in_err-key-clause-err c root whole w =
    if_err (λ fault. FailsAs (IsRootCrowded c.args.building.ahead (cell_at c.args.bins.now) c.args.minor root) fault whole) c.from_residual-in_err-key.result _ c.from_residual-in_err-key.ensures.1
    (walking-list-fails _ _ _ root whole c.args.lowest (reverse c.args.keys.now.items) _ c.leaf_from.new.table.states.items _ w
    (record { offset = c.in-Some-take.offset; hint = c.in-Some-take.ensures.next.0 })
    c.take-2.new.self c.in_default.ensures.next c.in-Some-take.ensures.next.1 _ c.in_err-key.ensures.follows)

pub returns-in-Some-take-clause-ok : goal.returns-in-Some-take-clause-ok
returns-in-Some-take-clause-ok c root whole w =
    let states = c.leaf_from.new.table.states.items in
    pushed (λ (ks : List KeyFrame). IsWalking c.args.building.ahead (cell_at c.args.bins.now) c.args.minor root whole ks states c.args.tree.now)
    c.args.keys.now.items _ _ _ c.push-in-Some-take.ensures.ok
    (walking-list _ _ _ root whole c.args.lowest (reverse c.args.keys.now.items) _ states _ w
    (record { offset = c.in-Some-take.offset; hint = c.in-Some-take.ensures.next.0 })
    c.take-2.new.self c.in_default.ensures.next c.in-Some-take.ensures.next.1 c.in_ok-key.field-0 c.in_ok-key.ensures.follows)

pub returns-clause-ok : goal.returns-clause-ok
returns-clause-ok c root whole w =
    walking-left _ _ _ root whole c.args.lowest (reverse c.args.keys.now.items) _ c.leave.new.self.states.items _ w
    c.in_default.ensures.next c.in_default-take.ensures.next c.leave.ensures.left

pub begin_key-requires-clause-read : goal.begin_key-requires-clause-read
begin_key-requires-clause-read c =
    let w = c.requires.walks in
    read-at _ _ _ w.0 w.1 c.args.lowest (reverse c.args.keys.now.items) _ _ w.2

pub begin_key-requires-clause-few : goal.begin_key-requires-clause-few
begin_key-requires-clause-few c =
    let w = c.requires.walks in
    few-built _ _ _ w.0 w.1 c.args.lowest (reverse c.args.keys.now.items) _ _ w.2 c.if-key-ge-SUBKEYS_LIMIT.false
