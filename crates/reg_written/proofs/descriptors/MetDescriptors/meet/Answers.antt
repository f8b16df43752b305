use Rattle.std.proofs.lemmas.List.Elements.{same_from_all_zip}
use Rattle.reg_written.proofs.DescriptorSets.{one-met}
use Rattle.reg_written.proofs.descriptors.MetDescriptors.meet.Goals as goal

pub returns : goal.returns
returns c =
    one-met c.args.descriptor.now c.args.self.now.hashed.keys c.insert.new.self.keys c.hash_of-hash.result c.in_ok-copy.copy
    (same_from_all_zip _ _ _ c.in_ok-copy.ensures.ok (λ x y e. e)) c.hash_of-hash.ensures c.in-Ok.is_new c.in-Ok.ensures.added c.in-Ok.ensures.keys
