use Rattle.std.proofs.Common.{◌≡◌, ◌∙◌, sym, arith, string_bytes}
use Rattle.std.specs.Fmt.{decimal}
use Rattle.std.proofs.lemmas.Result.{IfOk-weaker}
use Rattle.reg_tables.specs.Timelines.{precise_instant, precise_time}
use Rattle.reg_tables.proofs.PreciseTimes.{precise_time-last, precise_time-beyond}
use Rattle.reg_tables.proofs.timeline.precise_text.Goals as goal

pub returns-then-ticks-gt-LAST_INSTANT : goal.returns-then-ticks-gt-LAST_INSTANT
returns-then-ticks-gt-LAST_INSTANT c =
    let e = precise_time-beyond c.args.ticks (omega arith) in
    IfOk-weaker c.number_text.result (λ text. string_bytes text ≡ decimal c.args.ticks) (λ text. string_bytes text ≡ precise_time c.args.ticks) (λ text s. s ∙ sym e)
    c.number_text.ensures

pub returns : goal.returns
returns c =
    let e = precise_time-last c.args.ticks (omega arith) in
    IfOk-weaker c.precise_instant.result (λ text. string_bytes text ≡ precise_instant c.args.ticks) (λ text. string_bytes text ≡ precise_time c.args.ticks) (λ text s. s ∙ sym e)
    c.precise_instant.ensures
