use Rattle.std.proofs.lemmas.List.Elements.{same_from_all_zip}
use Rattle.reg_security.proofs.HashedDescriptors.{none-stands, put, free-none}
use Rattle.reg_security.proofs.hashed.HashedCells.expect.Goals as goal

pub returns-in-Ok-clause-ok : goal.returns-in-Ok-clause-ok
returns-in-Ok-clause-ok c =
    put c.self.inside.by_hash c.insert.new.self c.args.self.now c.args.descriptor.now c.hash_of-hash.result
    (record { descriptor = c.in_ok-to_vec.field-0; cell = 0 }) c.self.view_is c.self.invariant c.hash_of-hash.ensures c.in-Ok.ensures.updates
    c.insert.ensures.ordered
    (free-none c.args.descriptor.now _ (none-stands c.self.inside.by_hash.entries c.args.self.now c.args.descriptor.now c.hash_of-hash.result
    c.self.view_is c.self.invariant c.hash_of-hash.ensures c.requires))
    (same_from_all_zip _ _ _ c.in_ok-to_vec.ensures.ok (λ x y e. e))
