use Rattle.std.proofs.Common.{Some, IsSome, refl, sym, subst, ◌∙◌}
use Rattle.reg_security.proofs.HashedDescriptors.{found, cell-same, cell-other, hash-taken, hash-free, other-stands}
use Rattle.reg_security.proofs.hashed.HashedCells.standing.Goals as goal

pub returns-then-eq : goal.returns-then-eq
returns-then-eq c =
    subst IsSome
    (cell-same c.args.descriptor.now c.in-Some.first.now c.as_slice.result.now c.as_slice.ensures.value c.if-eq.ensures ∙
    found c.self.inside.by_hash.entries c.args.self.now c.args.descriptor.now c.hash_of-hash.result (Some c.in-Some.first.now) c.self.view_is c.self.invariant
    c.hash_of-hash.ensures c.in-Some.ensures.value) refl

pub returns-else-eq : goal.returns-else-eq
returns-else-eq c = (
  sym (cell-other c.args.descriptor.now c.in-Some.first.now c.as_slice.result.now c.as_slice.ensures.value c.if-eq.ensures ∙
      found c.self.inside.by_hash.entries c.args.self.now c.args.descriptor.now c.hash_of-hash.result (Some c.in-Some.first.now) c.self.view_is c.self.invariant
      c.hash_of-hash.ensures c.in-Some.ensures.value),
  hash-taken c.self.inside.by_hash.entries c.args.self.now c.args.descriptor.now c.hash_of-hash.result c.self.view_is c.self.invariant c.hash_of-hash.ensures
      (other-stands c.args.descriptor.now c.in-Some.first.now c.as_slice.result.now _ c.as_slice.ensures.value c.if-eq.ensures c.in-Some.ensures.value),
)

pub returns-in-None : goal.returns-in-None
returns-in-None c =
    hash-free c.self.inside.by_hash.entries c.args.self.now c.args.descriptor.now c.hash_of-hash.result c.self.view_is c.self.invariant c.hash_of-hash.ensures
    c.in-None.ensures.value
