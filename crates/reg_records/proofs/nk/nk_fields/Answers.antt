use Rattle.std.proofs.Common.{ap, sym, ◌∙◌}
use Rattle.reg_records.specs.KeyNodes.{KeyRecord}
use Rattle.reg_records.proofs.KeyNodeCodec.{nk-open}
use Rattle.reg_records.proofs.nk.nk_fields.Goals as goal

pub fields_at-requires : goal.fields_at-requires
fields_at-requires c = (nk-open _ _ c.requires.1).long

pub returns : goal.returns
returns c = λ record_is e. c.fields_at.ensures ∙ sym (ap (λ (r : KeyRecord). r.fields) (nk-open _ _ e).same)
