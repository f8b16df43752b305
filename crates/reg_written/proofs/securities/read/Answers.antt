use Rattle.reg_records.proofs.KeySecurityCodec.{security_at-made}
use Rattle.reg_written.proofs.SecurityReading.{content-of, no-fault}
use Rattle.reg_written.proofs.securities.read.Goals as goal

pub unreachable-requires : goal.unreachable-requires
unreachable-requires c = no-fault _ _ _ c.requires c.content.ensures _ c.in-Err.ensures

pub returns : goal.returns
returns c = security_at-made _ _ _ _ (content-of _ _ _ c.requires c.content.ensures) c.in-Ok.ensures
