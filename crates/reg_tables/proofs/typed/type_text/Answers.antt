use Rattle.std.proofs.Common.{◌≡◌, ◌∙◌, string_bytes, ap}
use Rattle.std.specs.Fmt.{decimal}
use Rattle.std.proofs.lemmas.Result.{IfOk-weaker}
use Rattle.reg_tables.specs.TypedValues.{type_text}
use Rattle.reg_tables.proofs.TypedTexts.{type-named, type-numbered}
use Rattle.reg_tables.proofs.typed.type_text.Goals as goal

pub returns-in-Some : goal.returns-in-Some
returns-in-Some c =
    IfOk-weaker c.from_str.result (λ text. string_bytes text ≡ c.in-Some.word.now) (λ text. string_bytes text ≡ type_text c.args.kind)
    (λ text e. e ∙ type-named c.args.kind c.in-Some.word.now c.in-Some.ensures) c.from_str.ensures.ok

pub returns-in-None : goal.returns-in-None
returns-in-None c =
    IfOk-weaker c.number_text.result (λ text. string_bytes text ≡ decimal c.from.result) (λ text. string_bytes text ≡ type_text c.args.kind)
    (λ text e. e ∙ (ap decimal c.from.ensures ∙ type-numbered c.args.kind c.in-None.ensures)) c.number_text.ensures
