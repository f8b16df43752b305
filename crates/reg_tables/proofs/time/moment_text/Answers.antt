use Rattle.std.proofs.Common.{◌≡◌, ◌∙◌, sym, arith, string_bytes}
use Rattle.std.specs.Fmt.{decimal}
use Rattle.std.proofs.lemmas.Result.{IfOk-weaker}
use Rattle.reg_tables.specs.Times.{instant_text, time_text}
use Rattle.reg_tables.proofs.TimesTold.{time_text-last, time_text-beyond}
use Rattle.reg_tables.proofs.time.moment_text.Goals as goal

pub returns-then-ticks-gt-LAST_INSTANT : goal.returns-then-ticks-gt-LAST_INSTANT
returns-then-ticks-gt-LAST_INSTANT c =
    let e = time_text-beyond c.args.ticks (omega arith) in
    IfOk-weaker c.number_text.result (λ text. string_bytes text ≡ decimal c.args.ticks) (λ text. string_bytes text ≡ time_text c.args.ticks) (λ text s. s ∙ sym e)
    c.number_text.ensures

pub returns : goal.returns
returns c =
    let e = time_text-last c.args.ticks (omega arith) in
    IfOk-weaker c.instant.result (λ text. string_bytes text ≡ instant_text c.args.ticks) (λ text. string_bytes text ≡ time_text c.args.ticks) (λ text s. s ∙ sym e)
    c.instant.ensures
