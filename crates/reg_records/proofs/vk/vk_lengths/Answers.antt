use Rattle.std.proofs.Common.{arith, ap, sym, ◌∙◌}
use Rattle.reg_records.specs.KeyValues.{KeyValueRecord}
use Rattle.reg_records.proofs.KeyValueCodec.{vk-open, vk-name-long}
use Rattle.reg_records.proofs.vk.vk_lengths.Goals as goal

pub half_at-name-requires : goal.half_at-name-requires
half_at-name-requires c = let v = (vk-open _ _ c.requires.1).long in omega (arith, v)

pub word_at-size-requires : goal.word_at-size-requires
word_at-size-requires c = let v = (vk-open _ _ c.requires.1).long in omega (arith, v)

pub returns-clause-name : goal.returns-clause-name
returns-clause-name c = λ record_is e. c.half_at-name.ensures ∙ sym (vk-name-long _ record_is e)

pub returns-clause-size : goal.returns-clause-size
returns-clause-size c = λ record_is e. c.word_at-size.ensures ∙ sym (ap (λ (r : KeyValueRecord). r.fields.size) (vk-open _ record_is e).same)
