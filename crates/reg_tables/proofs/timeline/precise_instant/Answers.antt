use Rattle.std.proofs.Common.{◌≡◌, ◌∙◌, ap, string_bytes, arith, pos, ◌-ℤ◌, ◌*ℤ◌}
use Rattle.std.proofs.lemmas.Result.{IfOk-weaker}
use Rattle.jiff_core.specs.declared.timestamp.Timestamp.{Timestamp}
use Rattle.jiff_core.proofs.SignedLemmas.{signed_casts}
use Rattle.reg_tables.specs.Timelines.{precise_instant}
use Rattle.reg_tables.proofs.PreciseTimes.{precise-printed}
use Rattle.reg_tables.proofs.timeline.precise_instant.Goals as goal

pub returns : goal.returns
returns c =
    let value = c.in-Ok.ensures.value in
    let same = ap (λ (t : Timestamp). t.nanosecond) c.to_plain.ensures in
    let nanos : c.to_plain.result.nanosecond ≡ (pos c.args.ticks -ℤ pos 116_444_736_000_000_000) *ℤ pos 100 = omega (arith, signed_casts, value, same) in
    let told = precise-printed c.new.result c.precision-printer.result c.to_plain.result c.timestamp_text-text.result.bytes c.args.ticks c.new.ensures
    c.precision-printer.ensures c.timestamp_text-text.ensures nanos in
    IfOk-weaker c.from_str.result (λ text. string_bytes text ≡ c.as_str.result.now) (λ text. string_bytes text ≡ precise_instant c.args.ticks)
    (λ text e. e ∙ (c.as_str.ensures.value ∙ told)) c.from_str.ensures.ok
