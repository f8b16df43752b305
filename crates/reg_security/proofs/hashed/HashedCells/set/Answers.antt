use Rattle.std.proofs.Common.{None, Some, IsSome, refl, sym, ap, subst, ◌∙◌}
use Rattle.reg_security.specs.Internal.Hashes.{shown_hashed}
use Rattle.reg_security.proofs.HashedDescriptors.{found, put, lent, cell-other, same-free, same-items}
use Rattle.reg_security.proofs.hashed.HashedCells.set.Goals.{in-Some+else-eq, in_default}
use Rattle.reg_security.proofs.hashed.HashedCells.set.Goals as goal

pub returns-then-eq : goal.returns-then-eq
returns-then-eq c =
    let first = c.in-Some.first.now in
    let w = c.get_mut.follows.holds (record { descriptor = c.in-Some.first.now.descriptor; cell = c.args.cell }) in
    record {
      set =
          put c.self.inside.by_hash (c.get_mut.follows.lender (record { descriptor = c.in-Some.first.now.descriptor; cell = c.args.cell })) c.args.self.now
          c.args.descriptor.now c.hash_of.result (record { descriptor = c.in-Some.first.now.descriptor; cell = c.args.cell }) c.self.view_is
          c.self.invariant c.hash_of.ensures (w.3 (subst IsSome c.in-Some.ensures.value refl)) w.4
          (same-free c.args.descriptor.now first c.as_slice.result.now _ c.as_slice.ensures.value c.if-eq.ensures c.in-Some.ensures.value)
          (same-items c.args.descriptor.now first c.as_slice.result.now c.as_slice.ensures.value c.if-eq.ensures);
    }

pub returns : goal.returns
returns c = record {
  set = elim c.match-get_mut.branch [
    | in-Some+else-eq w ↦ (
      ap (λ h. shown_hashed h.by_hash.entries) w.self-inside-is ∙
          lent c.self.inside.by_hash (c.get_mut.follows.lender w.in-Some.first.now) c.args.self.now c.hash_of.result w.in-Some.first.now c.self.view_is (c.get_mut.follows.holds w.in-Some.first.now)
          w.in-Some.ensures.value,
      sym (cell-other c.args.descriptor.now w.in-Some.first.now w.as_slice.result.now w.as_slice.ensures.value w.if-eq.ensures ∙
          found c.self.inside.by_hash.entries c.args.self.now c.args.descriptor.now c.hash_of.result (Some w.in-Some.first.now) c.self.view_is
          c.self.invariant c.hash_of.ensures w.in-Some.ensures.value),
    )
    | in_default w ↦ (
      ap (λ h. shown_hashed h.by_hash.entries) w.self-inside-is ∙ (ap (λ m. shown_hashed m.entries) c.get_mut.follows.holds-at-none ∙ c.self.view_is),
      sym (found c.self.inside.by_hash.entries c.args.self.now c.args.descriptor.now c.hash_of.result None c.self.view_is c.self.invariant
          c.hash_of.ensures w.in_default.ensures.value),
    )
  ];
}
