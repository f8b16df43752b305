use Rattle.reg_records.proofs.KeySecurityCodec.{security_at-made}
use Rattle.reg_security.proofs.SecurityReading.{security-exists, security-no_fault}
use Rattle.reg_security.proofs.reading.read.Goals as goal

pub content-requires : goal.content-requires
content-requires c = security-exists _ _ c.requires

pub unreachable-requires : goal.unreachable-requires
unreachable-requires c = security-no_fault _ _ _ _ c.requires c.content.ensures c.in-Err.ensures

pub returns : goal.returns
returns c = security_at-made _ _ _ _ c.content.ensures c.in-Ok.ensures
