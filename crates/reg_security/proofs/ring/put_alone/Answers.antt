use Rattle.reg_security.proofs.RingJoined.{joined-alone}
use Rattle.reg_security.proofs.ring.put_alone.Goals as goal

pub returns-clause-added : goal.returns-clause-added
returns-clause-added c = joined-alone _ _ _ _ c.put_sk.ensures.reads c.put_sk.ensures.plain c.requires.descriptor.0 c.requires.descriptor.1 c.put_sk.ensures.written.writes
