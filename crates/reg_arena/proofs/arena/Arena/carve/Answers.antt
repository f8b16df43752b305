use Rattle.std.proofs.Common.{arith, ◌≢◌, length, sym, ◌∙◌, refl}
use Rattle.std.proofs.lemmas.Bool.{eqb-false}
use Rattle.reg_arena.proofs.FreeList.ListedArenas.{total-positive, no-fit, fit-some}
use Rattle.reg_arena.proofs.Carving.CarveWhole.{total-eights}
use Rattle.reg_arena.proofs.Tiling.ArenaFaults.{not-full, room-or-not}
use Rattle.reg_arena.proofs.Tiling.ArenaInvariant.{apart, closed, opened}
use Rattle.reg_arena.proofs.arena.Arena.carve.Goals as goal

pub best_fit-requires-clause-lists : goal.best_fit-requires-clause-lists
best_fit-requires-clause-lists c = record { sizes = _; listed = (opened _ _ c.self.invariant.0).listed }

pub best_fit-requires-clause-some : goal.best_fit-requires-clause-some
best_fit-requires-clause-some c =
    let some : length c.args.sizes.now ≢ 0 = eqb-false (length c.args.sizes.now) 0 (sym c.is_empty.ensures ∙ c.if-is_empty.false) in
    rw c.sum_of-total.ensures (total-positive c.args.sizes.now c.requires.sizes (omega arith))

pub best_fit-requires-clause-eights : goal.best_fit-requires-clause-eights
best_fit-requires-clause-eights c = rw c.sum_of-total.ensures (total-eights c.args.sizes.now c.requires.sizes)

pub invariant_of-self : goal.invariant_of-self
invariant_of-self c = (
  closed _ _ (record { arena = (opened _ _ c.self.invariant.0).arena; listed = c.best_fit.ensures.listed _ (opened _ _ c.self.invariant.0).listed }) (apart _ _ c.self.invariant.0),
  c.self.invariant.1,
)

pub returns-then-passes_limit-clause-full : goal.returns-then-passes_limit-clause-full
returns-then-passes_limit-clause-full c =
    let some : length c.args.sizes.now ≢ 0 = eqb-false (length c.args.sizes.now) 0 (sym c.is_empty.ensures ∙ c.if-is_empty.false) in
    let passes = rw c.sum_of-total.ensures at (c.passes_limit.ensures.passes c.if-passes_limit.true) in
    let none = no-fit _ _ _ (opened _ _ c.self.invariant.0) (c.in_default.ensures.fit _ (opened _ _ c.self.invariant.0).listed) in
    rw (← c.self.view_is) ((λ _. (omega arith, passes, (rw c.sum_of-total.ensures at none))), λ _. refl)

pub carve_bin-requires-clause-arena : goal.carve_bin-requires-clause-arena
carve_bin-requires-clause-arena c = record { arena = (opened _ _ c.self.invariant.0).arena; listed = c.best_fit.ensures.listed _ (opened _ _ c.self.invariant.0).listed }

pub carve_bin-requires-clause-none : goal.carve_bin-requires-clause-none
carve_bin-requires-clause-none c = no-fit _ _ _ (opened _ _ c.self.invariant.0) (c.in_default.ensures.fit _ (opened _ _ c.self.invariant.0).listed)

pub carve_bin-requires-clause-room : goal.carve_bin-requires-clause-room
carve_bin-requires-clause-room c = c.passes_limit.ensures.room c.if-passes_limit.false

pub carve_bin-requires-clause-positive : goal.carve_bin-requires-clause-positive
carve_bin-requires-clause-positive c =
    let some : length c.args.sizes.now ≢ 0 = eqb-false (length c.args.sizes.now) 0 (sym c.is_empty.ensures ∙ c.if-is_empty.false) in
    rw c.sum_of-total.ensures (total-positive c.args.sizes.now c.requires.sizes (omega arith))

pub carve_found-requires-clause-fit : goal.carve_found-requires-clause-fit
carve_found-requires-clause-fit c = record {
  indexed = record { arena = (opened _ _ c.self.invariant.0).arena; listed = c.best_fit.ensures.listed _ (opened _ _ c.self.invariant.0).listed };
  fit_is = c.in-Some.ensures.fit _ (opened _ _ c.self.invariant.0).listed;
}

pub carve_found-requires-clause-positive : goal.carve_found-requires-clause-positive
carve_found-requires-clause-positive c =
    let some : length c.args.sizes.now ≢ 0 = eqb-false (length c.args.sizes.now) 0 (sym c.is_empty.ensures ∙ c.if-is_empty.false) in
    rw c.sum_of-total.ensures (total-positive c.args.sizes.now c.requires.sizes (omega arith))

pub returns-in_default-clause-full : goal.returns-in_default-clause-full
returns-in_default-clause-full c =
    rw (← c.self.view_is) (
      (λ e. absurd (not-full _ c.carve_bin.ensures.fault e)),
      λ h. absurd (room-or-not _ _ (rw c.sum_of-total.ensures at (c.passes_limit.ensures.room c.if-passes_limit.false)) h.1),
    )

pub returns-clause-full : goal.returns-clause-full
returns-clause-full c =
    let f = c.in-Some.ensures.fit _ (opened _ _ c.self.invariant.0).listed in
    let some : length c.args.sizes.now ≢ 0 = eqb-false (length c.args.sizes.now) 0 (sym c.is_empty.ensures ∙ c.if-is_empty.false) in
    let positive = total-positive c.args.sizes.now c.requires.sizes (omega arith) in
    rw (← c.self.view_is) (
      (λ e. absurd (not-full _ c.carve_found.ensures.fault e)),
      λ h. absurd (fit-some _ _ _ _ _ (opened _ _ c.self.invariant.0) f.free (rw c.sum_of-total.ensures at f.fits) positive h.2),
    )

pub passes_limit-requires-clause-small : goal.passes_limit-requires-clause-small
passes_limit-requires-clause-small c = (opened _ _ c.self.invariant.0).arena.small

pub invariant_of-self-in_default : goal.invariant_of-self-in_default
invariant_of-self-in_default c = (closed _ _ c.carve_bin.ensures.arena c.carve_bin.ensures.split, c.self.invariant.1)

pub invariant_of-self-2 : goal.invariant_of-self-2
invariant_of-self-2 c = (closed _ _ c.carve_found.ensures.arena c.carve_found.ensures.split, c.self.invariant.1)

pub carve_bin-requires-clause-split : goal.carve_bin-requires-clause-split
carve_bin-requires-clause-split c = apart _ _ c.self.invariant.0

pub carve_found-requires-clause-split : goal.carve_found-requires-clause-split
carve_found-requires-clause-split c = apart _ _ c.self.invariant.0
