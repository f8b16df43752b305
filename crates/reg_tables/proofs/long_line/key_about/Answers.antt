use Rattle.std.proofs.Common.{◌≡◌, ◌++◌, ◌∙◌, string_bytes}
use Rattle.std.proofs.lemmas.Result.{IfOk-weaker}
use Rattle.reg_tables.specs.LongListings.{time_part, security_part, key_about}
use Rattle.reg_tables.proofs.LongLines.{key-told}
use Rattle.reg_tables.proofs.long_line.key_about.Goals as goal

pub returns : goal.returns
returns c =
    λ p at key here.
    IfOk-weaker c.key_parts.result
    (λ text. string_bytes text ≡
    time_part c.args.columns.has_times c.time-ticks.result ++ security_part c.args.columns.has_securities c.descriptor.result.now)
    (λ text. string_bytes text ≡ key_about c.args.columns key)
    (λ text e. e ∙ key-told c.args.columns key _ _ (c.time-ticks.ensures p at key here) (c.descriptor.ensures.told p at key here)) c.key_parts.ensures
