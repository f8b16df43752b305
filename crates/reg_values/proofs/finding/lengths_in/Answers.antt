use Rattle.std.proofs.Common.{ap, ◌∙◌, ℕ, if◌then◌else◌}
use Rattle.reg_records.specs.BigData.{is_inline, inline_size}
use Rattle.reg_values.proofs.finding.lengths_in.Goals as goal

pub returns-clause-name : goal.returns-clause-name
returns-clause-name c = λ record_is e. c.from.ensures ∙ c.vk_lengths-lengths.ensures.name record_is e

pub returns-clause-size : goal.returns-clause-size
returns-clause-size c = λ record_is e.
    c.size_in.ensures ∙ ap (λ (s : ℕ). if is_inline s then inline_size s else s) (c.vk_lengths-lengths.ensures.size record_is e)
