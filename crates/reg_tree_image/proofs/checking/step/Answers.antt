use Rattle.std.proofs.Common.{ℕ, ◌+◌, ◌∷◌, reverse, List, subst, sym}
use Rattle.reg_arena.specs.Cells.{cell_at}
use Rattle.reg_tree_image.specs.declared.checking.CheckedKey.{CheckedKey}
use Rattle.reg_tree_image.specs.Internal.FaultSpots.{IsMetAt, spot_in}
use Rattle.reg_tree_image.specs.Internal.CheckedStacks.{IsChecking, Meets}
use Rattle.reg_tree_image.proofs.KeyStacks.StackEnds.{if_err, pushed, pushed-twice}
use Rattle.reg_tree_image.proofs.KeyStacks.CheckTurns.{checking-left, checking-list, checking-list-fails, checking-list-spot, checking-many, checking-key, checking-key-fails, checking-key-spot}
use Rattle.reg_tree_image.proofs.checking.step.Goals as goal

pub returns-in_err-below-clause-err : goal.returns-in_err-below-clause-err
returns-in_err-below-clause-err c whole there w =
    if_err (λ fault. Meets fault whole) c.from_residual.result _ c.from_residual.ensures.1
    (checking-key-fails _ _ whole there c.args.lowest (reverse c.args.keys.now.items) _ c.check_key.new.table.states.items c.args.noted.now.items _ w
    (record { offset = c.in-Some.offset; hint = c.in-Some.ensures.next.0 })
    c.take.new.self c.in-Some.ensures.next.1 c.if-key-ge-SUBKEYS_LIMIT.false c.check_key.new.siblings _ c.in_err-below.ensures.checks)

pub returns-in-Some-clause-ok : goal.returns-in-Some-clause-ok
returns-in-Some-clause-ok c whole there w =
    let states = c.check_key.new.table.states.items in
    pushed-twice (λ (ks : List CheckedKey). IsChecking (cell_at c.args.bins.now) c.args.minor whole there ks states c.check_key.new.noted.items c.check_key.new.spot.path.items)
    c.args.keys.now.items _ _ _ c.in_ok-below.below _ c.in_ok-push.ensures.ok c.push-in-Some.ensures.ok
    (subst (λ (l : List ℕ). IsChecking (cell_at c.args.bins.now) c.args.minor whole there
    (c.in_ok-below.below ∷ record c.args.lowest { count = c.args.lowest.count + 1; leaf = c.take.new.self; names = c.check_key.new.siblings } ∷ reverse c.args.keys.now.items) states l c.check_key.new.spot.path.items) (sym c.in_ok-below.ensures.noted)
    (checking-key _ _ whole there c.args.lowest (reverse c.args.keys.now.items) _ states c.args.noted.now.items _ w
    (record { offset = c.in-Some.offset; hint = c.in-Some.ensures.next.0 })
    c.take.new.self c.in-Some.ensures.next.1 c.if-key-ge-SUBKEYS_LIMIT.false c.in_ok-below.below c.check_key.new.siblings c.in_ok-below.ensures.checks
    c.check_key.new.spot.path.items c.in_ok-below.ensures.trail))

pub returns-in_err-key-clause-err : goal.returns-in_err-key-clause-err
returns-in_err-key-clause-err c whole there w =
    if_err (λ fault. Meets fault whole) c.from_residual-in_err-key.result _ c.from_residual-in_err-key.ensures.1
    (checking-list-fails _ _ whole there c.args.lowest (reverse c.args.keys.now.items) _ c.leaf_from.new.table.states.items c.args.noted.now.items _ w
    (record { offset = c.in-Some-take.offset; hint = c.in-Some-take.ensures.next.0 })
    c.take-2.new.self c.in_default.ensures.next c.in-Some-take.ensures.next.1 _ c.in_err-key.ensures.follows)

pub returns-in-Some-take-clause-ok : goal.returns-in-Some-take-clause-ok
returns-in-Some-take-clause-ok c whole there w =
    let states = c.leaf_from.new.table.states.items in
    pushed (λ (ks : List CheckedKey). IsChecking (cell_at c.args.bins.now) c.args.minor whole there ks states c.args.noted.now.items c.args.spot.now.path.items)
    c.args.keys.now.items _ _ _ c.push-in-Some-take.ensures.ok
    (checking-list _ _ whole there c.args.lowest (reverse c.args.keys.now.items) _ states c.args.noted.now.items _ w
    (record { offset = c.in-Some-take.offset; hint = c.in-Some-take.ensures.next.0 })
    c.take-2.new.self c.in_default.ensures.next c.in-Some-take.ensures.next.1 c.in_ok-key.field-0 c.in_ok-key.ensures.follows)

pub returns-clause-ok : goal.returns-clause-ok
returns-clause-ok c whole there w =
    checking-left _ _ whole there c.args.lowest (reverse c.args.keys.now.items) _ c.leave.new.self.states.items c.args.noted.now.items _ w
    c.in_default.ensures.next c.in_default-take.ensures.next c.leave.ensures.left c.leave_spot.new.spot.path.items c.leave_spot.ensures

-- ---- where a fault is met

pub returns-then-key-ge-SUBKEYS_LIMIT-clause-spots : goal.returns-then-key-ge-SUBKEYS_LIMIT-clause-spots
returns-then-key-ge-SUBKEYS_LIMIT-clause-spots c whole there w =
    checking-many _ _ whole there c.args.lowest (reverse c.args.keys.now.items) _ c.args.table.now.states.items c.args.noted.now.items _ w
    (record { offset = c.in-Some.offset; hint = c.in-Some.ensures.next.0 }) c.take.new.self c.in-Some.ensures.next.1 c.if-key-ge-SUBKEYS_LIMIT.true

pub returns-in_err-below-clause-spots : goal.returns-in_err-below-clause-spots
returns-in_err-below-clause-spots c whole there w =
    if_err (λ fault. IsMetAt fault (spot_in c.check_key.new.spot) there) c.from_residual.result _ c.from_residual.ensures.1
    (checking-key-spot _ _ whole there c.args.lowest (reverse c.args.keys.now.items) _ c.check_key.new.table.states.items c.args.noted.now.items _ w
    (record { offset = c.in-Some.offset; hint = c.in-Some.ensures.next.0 })
    c.take.new.self c.in-Some.ensures.next.1 c.if-key-ge-SUBKEYS_LIMIT.false c.check_key.new.siblings _ c.in_err-below.ensures.checks
    (spot_in c.check_key.new.spot) c.in_err-below.ensures.spots)

pub returns-in_err-key-clause-spots : goal.returns-in_err-key-clause-spots
returns-in_err-key-clause-spots c whole there w =
    if_err (λ fault. IsMetAt fault (record { offset = c.in-Some-take.offset; path = reverse c.args.spot.now.path.items }) there)
    c.from_residual-in_err-key.result _ c.from_residual-in_err-key.ensures.1
    (checking-list-spot _ _ whole there c.args.lowest (reverse c.args.keys.now.items) _ c.leaf_from.new.table.states.items c.args.noted.now.items _ w
    (record { offset = c.in-Some-take.offset; hint = c.in-Some-take.ensures.next.0 })
    c.take-2.new.self c.in_default.ensures.next c.in-Some-take.ensures.next.1 _ c.in_err-key.ensures.follows)
