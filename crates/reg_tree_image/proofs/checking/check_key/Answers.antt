use Rattle.std.proofs.Common.{◌≡◌, ◌≢◌, ℕ, suc, ◌-◌, ◌∷◌, reverse, refl, arith}
use Rattle.std.specs.Cow.{cow_slice_items}
use Rattle.reg_arena.specs.Cells.{cell_at}
use Rattle.reg_tree_image.specs.declared.LoadFault.TheVariants.{Limit}
use Rattle.reg_tree_image.specs.FaultPlaces.{Spot, key_spot}
use Rattle.reg_tree_image.specs.Internal.FaultSpots.{IsMetAt}
use Rattle.reg_tree_image.proofs.KeyStacks.StackEnds.{if_err}
use Rattle.reg_tree_image.proofs.Readers.BegunSteps.{head-stops, told_then}
use Rattle.reg_tree_image.proofs.Readers.SpotSteps.{trail-longer, trail-met, head-met, parts-met, list-met}
use Rattle.reg_tree_image.proofs.Readers.CheckedSteps.{meets-exit, not-named, new-stops, not-new, new-free, head-new, deep-stops, too-deep, not-read, not-listed, is-checked}
use Rattle.reg_tree_image.proofs.checking.check_key.Goals as goal

-- where a level is left, there is one fewer below
one-fewer : (levels : ℕ) → levels ≢ 0 → levels ≡ suc (levels - 1)
one-fewer levels n = omega (arith, n)

pub returns-in_err-named-clause-checks : goal.returns-in_err-named-clause-checks
returns-in_err-named-clause-checks c path here seen t are =
    meets-exit _ _ _ c.from_residual.result c.from_residual.ensures.1
    (not-named (cell_at c.args.bins.now) c.args.minor c.args.levels path here c.args.offset seen _ (c.in_err-named.ensures.follows path seen t))

pub returns-in_err-put-clause-checks : goal.returns-in_err-put-clause-checks
returns-in_err-put-clause-checks c path here seen t are =
    meets-exit _ _ _ c.from_residual-in_err-put.result c.from_residual-in_err-put.ensures.1
    (not-new (cell_at c.args.bins.now) c.args.minor c.args.levels path here c.args.offset seen c.args.siblings.now are c.in_ok-named.named _
    (c.in_ok-named.ensures.follows path seen t) _ c.in_err-put.ensures.new)

pub returns-then-levels-eq0-clause-checks : goal.returns-then-levels-eq0-clause-checks
returns-then-levels-eq0-clause-checks c path here seen t are =
    let done = c.in_ok-named.ensures.follows path seen t in
    let free = new-free (cell_at c.args.bins.now) c.args.minor c.args.levels path here c.args.offset seen c.args.siblings.now are c.in_ok-named.named _
    done c.in_ok-put.ensures.new in
    let head = head-new (cell_at c.args.bins.now) c.args.minor c.args.levels path here c.args.offset seen c.args.siblings.now are c.in_ok-named.named _
    done free in
    too-deep (cell_at c.args.bins.now) c.args.minor c.args.levels path here c.args.offset seen c.in_ok-named.named _ head c.if-levels-eq0.true

pub returns-in_err-_parts-clause-checks : goal.returns-in_err-_parts-clause-checks
returns-in_err-_parts-clause-checks c path here seen t are =
    let done = c.in_ok-named.ensures.follows path seen t in
    let free = new-free (cell_at c.args.bins.now) c.args.minor c.args.levels path here c.args.offset seen c.args.siblings.now are c.in_ok-named.named _
    done c.in_ok-put.ensures.new in
    let head = head-new (cell_at c.args.bins.now) c.args.minor c.args.levels path here c.args.offset seen c.args.siblings.now are c.in_ok-named.named _
    done free in
    meets-exit _ _ _ c.from_residual-in_err-_parts.result c.from_residual-in_err-_parts.ensures.1
    (not-read (cell_at c.args.bins.now) c.args.minor c.args.levels path here c.args.offset seen c.in_ok-named.named _ head (c.args.levels - 1)
    (one-fewer c.args.levels c.if-levels-eq0.false) _ (c.in_err-_parts.ensures.follows path head.after head.table))

pub returns-in_err-subkeys-clause-checks : goal.returns-in_err-subkeys-clause-checks
returns-in_err-subkeys-clause-checks c path here seen t are =
    let done = c.in_ok-named.ensures.follows path seen t in
    let free = new-free (cell_at c.args.bins.now) c.args.minor c.args.levels path here c.args.offset seen c.args.siblings.now are c.in_ok-named.named _
    done c.in_ok-put.ensures.new in
    let head = head-new (cell_at c.args.bins.now) c.args.minor c.args.levels path here c.args.offset seen c.args.siblings.now are c.in_ok-named.named _
    done free in
    meets-exit _ _ _ c.from_residual-in_err-subkeys.result c.from_residual-in_err-subkeys.ensures.1
    (not-listed (cell_at c.args.bins.now) c.args.minor c.args.levels path here c.args.offset seen c.in_ok-named.named _ head (c.args.levels - 1)
    (one-fewer c.args.levels c.if-levels-eq0.false) c.in_ok-_parts._parts _ (c.in_ok-_parts.ensures.follows path head.after head.table)
    c.subkeys_from.new.table.states.items _ (c.in_err-subkeys.ensures.lists (c.args.offset ∷ path)))

pub returns-clause-checks : goal.returns-clause-checks
returns-clause-checks c path here seen t are =
    let done = c.in_ok-named.ensures.follows path seen t in
    let name = cow_slice_items c.in_ok-named.named.name in
    let free = new-free (cell_at c.args.bins.now) c.args.minor c.args.levels path here c.args.offset seen c.args.siblings.now are c.in_ok-named.named _
    done c.in_ok-put.ensures.new in
    let head = head-new (cell_at c.args.bins.now) c.args.minor c.args.levels path here c.args.offset seen c.args.siblings.now are c.in_ok-named.named _
    done free in
    is-checked (cell_at c.args.bins.now) c.args.minor c.args.levels path here c.args.offset seen c.in_ok-named.named _ head (c.args.levels - 1)
    (one-fewer c.args.levels c.if-levels-eq0.false) c.in_ok-_parts._parts _ (c.in_ok-_parts.ensures.follows path head.after head.table)
    c.subkeys_from.new.table.states.items c.in_ok-subkeys.subkeys (c.in_ok-subkeys.ensures.lists (c.args.offset ∷ path)) free
    c.args.siblings.now c.put.new.self c.new.result
    c.in_ok-put.ensures.met c.new.ensures (c.args.levels - 1) refl

-- ---- where a fault is met

pub returns-in_err-named-clause-spots : goal.returns-in_err-named-clause-spots
returns-in_err-named-clause-spots c path here seen t are q =
    if_err (λ fault. IsMetAt fault (record { offset = c.args.offset; path = reverse c.args.spot.now.path.items })
    (key_spot (cell_at c.args.bins.now) c.args.minor c.args.levels path here c.args.offset seen))
    c.from_residual.result _ c.from_residual.ensures.1
    (head-met (cell_at c.args.bins.now) c.args.minor c.args.levels path here c.args.offset seen _ _ q
    (head-stops (cell_at c.args.bins.now) c.args.levels path here c.args.offset seen _ (c.in_err-named.ensures.follows path seen t)))

pub returns-in_err-put-clause-spots : goal.returns-in_err-put-clause-spots
returns-in_err-put-clause-spots c path here seen t are q =
    if_err (λ fault. IsMetAt fault (record { offset = c.args.offset; path = reverse c.args.spot.now.path.items })
    (key_spot (cell_at c.args.bins.now) c.args.minor c.args.levels path here c.args.offset seen))
    c.from_residual-in_err-put.result _ c.from_residual-in_err-put.ensures.1
    (head-met (cell_at c.args.bins.now) c.args.minor c.args.levels path here c.args.offset seen _ _ q
    (new-stops (cell_at c.args.bins.now) c.args.minor c.args.levels path here c.args.offset seen c.args.siblings.now are c.in_ok-named.named _
    (c.in_ok-named.ensures.follows path seen t) _ c.in_err-put.ensures.new))

pub returns-then-levels-eq0-clause-spots : goal.returns-then-levels-eq0-clause-spots
returns-then-levels-eq0-clause-spots c path here seen t are q =
    let done = c.in_ok-named.ensures.follows path seen t in
    let free = new-free (cell_at c.args.bins.now) c.args.minor c.args.levels path here c.args.offset seen c.args.siblings.now are c.in_ok-named.named _
    done c.in_ok-put.ensures.new in
    let head = head-new (cell_at c.args.bins.now) c.args.minor c.args.levels path here c.args.offset seen c.args.siblings.now are c.in_ok-named.named _
    done free in
    head-met (cell_at c.args.bins.now) c.args.minor c.args.levels path here c.args.offset seen Limit _ q
    (deep-stops (cell_at c.args.bins.now) c.args.minor c.args.levels path here c.args.offset seen c.in_ok-named.named _ head c.if-levels-eq0.true)

pub returns-in_err-_parts-clause-spots : goal.returns-in_err-_parts-clause-spots
returns-in_err-_parts-clause-spots c path here seen t are q =
    let done = c.in_ok-named.ensures.follows path seen t in
    let free = new-free (cell_at c.args.bins.now) c.args.minor c.args.levels path here c.args.offset seen c.args.siblings.now are c.in_ok-named.named _
    done c.in_ok-put.ensures.new in
    let head = head-new (cell_at c.args.bins.now) c.args.minor c.args.levels path here c.args.offset seen c.args.siblings.now are c.in_ok-named.named _
    done free in
    let its : Spot = record { offset = c.enter_key.new.failed; path = reverse c.enter_spot.new.spot.path.items } in
    if_err (λ fault. IsMetAt fault its (key_spot (cell_at c.args.bins.now) c.args.minor c.args.levels path here c.args.offset seen))
    c.from_residual-in_err-_parts.result _ c.from_residual-in_err-_parts.ensures.1
    (trail-met _ c.enter_key.new.failed (reverse c.enter_spot.new.spot.path.items) (c.args.offset ∷ path) _
    (trail-longer _ _ path c.args.offset c.in_ok-enter_spot.ensures.ok q)
    (parts-met (cell_at c.args.bins.now) c.args.minor (c.args.levels - 1) path here c.args.offset seen c.in_ok-named.named _ head
    c.args.levels (one-fewer c.args.levels c.if-levels-eq0.false) _ (record { offset = c.enter_key.new.failed; path = c.args.offset ∷ path })
    (c.in_err-_parts.ensures.follows path head.after head.table) (c.in_err-_parts.ensures.spots path head.after head.table)))

pub returns-in_err-subkeys-clause-spots : goal.returns-in_err-subkeys-clause-spots
returns-in_err-subkeys-clause-spots c path here seen t are q =
    let done = c.in_ok-named.ensures.follows path seen t in
    let free = new-free (cell_at c.args.bins.now) c.args.minor c.args.levels path here c.args.offset seen c.args.siblings.now are c.in_ok-named.named _
    done c.in_ok-put.ensures.new in
    let head = head-new (cell_at c.args.bins.now) c.args.minor c.args.levels path here c.args.offset seen c.args.siblings.now are c.in_ok-named.named _
    done free in
    let own = c.in_ok-_parts.ensures.follows path head.after head.table in
    let list = c.in_ok-named.named.node.fields.subkeys_list in
    let its : Spot = record { offset = list; path = reverse c.enter_spot.new.spot.path.items } in
    if_err (λ fault. IsMetAt fault its (key_spot (cell_at c.args.bins.now) c.args.minor c.args.levels path here c.args.offset seen))
    c.from_residual-in_err-subkeys.result _ c.from_residual-in_err-subkeys.ensures.1
    (trail-met _ list (reverse c.enter_spot.new.spot.path.items) (c.args.offset ∷ path) _
    (trail-longer _ _ path c.args.offset c.in_ok-enter_spot.ensures.ok q)
    (list-met (cell_at c.args.bins.now) c.args.minor (c.args.levels - 1) path here c.args.offset seen c.in_ok-named.named _ head
    c.in_ok-_parts._parts _ own c.args.levels (one-fewer c.args.levels c.if-levels-eq0.false) _
    (c.in_err-subkeys.ensures.fails (c.args.offset ∷ path)
    (told_then (cell_at c.args.bins.now) c.args.minor (c.args.levels - 1) path here c.args.offset seen c.in_ok-named.named _ head c.in_ok-_parts._parts _ own)
    own.table)))
