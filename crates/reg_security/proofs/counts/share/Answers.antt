use Rattle.std.proofs.Common.{rules, ◌+◌}
use Rattle.reg_security.proofs.RingCounted.{ring-recounted}
use Rattle.reg_security.proofs.counts.share.Goals as goal

pub returns-clause-ring : goal.returns-clause-ring
returns-clause-ring c = λ ring is. ring-recounted _ _ c.args.cell (λ n. n + 1) (search rules) ring is
