use Rattle.std.proofs.Common.{None, Some, ◌∙◌}
use Rattle.reg_security.proofs.HashedDescriptors.{found, cell-same, cell-other}
use Rattle.reg_security.proofs.hashed.HashedCells.find.Goals as goal

pub returns-then-eq : goal.returns-then-eq
returns-then-eq c =
    cell-same c.args.descriptor.now c.in-Some.first.now c.as_slice.result.now c.as_slice.ensures.value c.if-eq.ensures ∙
    found c.self.inside.by_hash.entries c.args.self.now c.args.descriptor.now c.hash_of.result (Some c.in-Some.first.now) c.self.view_is c.self.invariant
    c.hash_of.ensures c.in-Some.ensures.value

pub returns-else-eq : goal.returns-else-eq
returns-else-eq c =
    cell-other c.args.descriptor.now c.in-Some.first.now c.as_slice.result.now c.as_slice.ensures.value c.if-eq.ensures ∙
    found c.self.inside.by_hash.entries c.args.self.now c.args.descriptor.now c.hash_of.result (Some c.in-Some.first.now) c.self.view_is c.self.invariant
    c.hash_of.ensures c.in-Some.ensures.value

pub returns-in-None : goal.returns-in-None
returns-in-None c =
    found c.self.inside.by_hash.entries c.args.self.now c.args.descriptor.now c.hash_of.result None c.self.view_is c.self.invariant c.hash_of.ensures
    c.in-None.ensures.value
