use Rattle.std.proofs.Common.{arith, ◌<◌, ◌≤◌, ◌+◌, length}
use Rattle.reg_heap.specs.declared.limits.TheConstants.{BINS_LIMIT, GROWTH_BOUND}
use Rattle.reg_arena.specs.EachCell.{fresh_of}
use Rattle.reg_arena.proofs.Carving.FreshBins.{fresh-some, fresh-passes, carvable}
use Rattle.reg_arena.proofs.Carving.EachCarve.{change-together}
use Rattle.reg_arena.proofs.Carving.GrownBins.{apart-grows, together-grows}
use Rattle.reg_arena.proofs.arena.Arena.carve_change.Goals as goal

pub fresh_within-requires : goal.fresh_within-requires
fresh_within-requires c = (let total = c.requires.total in carvable c.args.sizes.now 1306592 (omega (arith, total)) (omega arith))

pub carve_each-requires-clause-each : goal.carve_each-requires-clause-each
carve_each-requires-clause-each c = (let total = c.requires.total in carvable c.args.sizes.now 1306592 (omega (arith, total)) (omega arith))

pub returns-in_default-clause-ok : goal.returns-in_default-clause-ok
returns-in_default-clause-ok c =
    let past : GROWTH_BOUND < fresh_of c.args.sizes.now = c.in_default.ensures in
    change-together c.carve.result _ _ _ _ _ (fresh-some c.args.sizes.now (omega (arith, past))) (λ room. omega (arith, room.0, past)) c.carve.ensures.ok

pub returns-then-fresh-bins_size-clause-ok : goal.returns-then-fresh-bins_size-clause-ok
returns-then-fresh-bins_size-clause-ok c =
    let fresh = c.in-Some.ensures.0 in
    let size = c.bins_size.ensures.size in
    let small = c.bins_size.ensures.sound.small in
    let past : BINS_LIMIT < length c.args.self.now.bytes + fresh_of c.args.sizes.now = omega (arith, fresh, size, small, c.if-fresh-bins_size.true) in
    change-together c.carve-then-fresh-bins_size.result _ _ _ _ _ (fresh-some c.args.sizes.now (omega (arith, past, small)))
    (λ room. omega (arith, room.1, past)) c.carve-then-fresh-bins_size.ensures.ok

pub returns-clause-full : goal.returns-clause-full
returns-clause-full c =
    let fresh = c.in-Some.ensures.0 in
    let size = c.bins_size.ensures.size in
    let small = c.bins_size.ensures.sound.small in
    let room : length c.args.self.now.bytes + fresh_of c.args.sizes.now ≤ BINS_LIMIT = omega (arith, fresh, size, small, c.if-fresh-bins_size.false) in (
      (λ e. (let past = (c.carve_each.ensures.full.0 e).1 in absurd (omega (arith, past, room)))),
      λ h. absurd (fresh-passes c.args.self.now.bytes c.args.sizes.now h.0 room h.1),
    )

pub returns-in_default-clause-growth : goal.returns-in_default-clause-growth
returns-in_default-clause-growth c =
    let past : GROWTH_BOUND < fresh_of c.args.sizes.now = c.in_default.ensures in
    together-grows c.carve.result _ _ _ _ _ (fresh-some c.args.sizes.now (omega (arith, past))) (λ room. omega (arith, room.0, past)) c.carve.ensures.ok

pub returns-then-fresh-bins_size-clause-growth : goal.returns-then-fresh-bins_size-clause-growth
returns-then-fresh-bins_size-clause-growth c =
    let fresh = c.in-Some.ensures.0 in
    let size = c.bins_size.ensures.size in
    let small = c.bins_size.ensures.sound.small in
    let past : BINS_LIMIT < length c.args.self.now.bytes + fresh_of c.args.sizes.now = omega (arith, fresh, size, small, c.if-fresh-bins_size.true) in
    together-grows c.carve-then-fresh-bins_size.result _ _ _ _ _ (fresh-some c.args.sizes.now (omega (arith, past, small)))
    (λ room. omega (arith, room.1, past)) c.carve-then-fresh-bins_size.ensures.ok

pub returns-clause-growth : goal.returns-clause-growth
returns-clause-growth c = apart-grows c.carve_each.result _ _ _ _ _ c.requires.sizes c.carve_each.ensures.ok c.carve_each.ensures.grows
