use Rattle.std.proofs.Common.{subst}
use Rattle.reg_security.specs.Rings.{IsNear}
use Rattle.reg_security.proofs.ring.put.Goals as goal

pub put_behind-requires-clause-ring : goal.put_behind-requires-clause-ring
put_behind-requires-clause-ring c = let r = c.requires.ring in (r.0, r.1, subst (IsNear r.0) c.in-Some.is r.2, r.3, r.4)

pub returns-clause-added : goal.returns-clause-added
returns-clause-added c = λ ring is near apart free. c.put_behind.ensures.added ring is (subst (IsNear ring) c.in-Some.is near) apart free
