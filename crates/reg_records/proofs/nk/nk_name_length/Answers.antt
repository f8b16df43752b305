use Rattle.std.proofs.Common.{arith, sym, ◌∙◌}
use Rattle.reg_records.proofs.KeyNodeCodec.{nk-open, nk-name-long}
use Rattle.reg_records.proofs.nk.nk_name_length.Goals as goal

pub half_at-requires : goal.half_at-requires
half_at-requires c = let v = (nk-open _ _ c.requires.1).long in omega (arith, v)

pub returns : goal.returns
returns c = λ record_is e. c.half_at.ensures ∙ sym (nk-name-long _ record_is e)
