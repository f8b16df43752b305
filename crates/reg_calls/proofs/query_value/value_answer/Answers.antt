use Rattle.std.proofs.Common.{ℕ, Option, Some, sym, subst, arith}
use Rattle.reg_model.specs.Replies.{value_told}
use Rattle.reg_model.specs.declared.answer.AnswerBody.TheVariants.{Refused}
use Rattle.reg_calls.specs.Views.{IsTold}
use Rattle.reg_calls.proofs.QueryAnswers.{value-lacks}
use Rattle.reg_calls.proofs.query_value.value_answer.Goals as goal

pub returns-in-Err : goal.returns-in-Err
returns-in-Err c = λ p at member is kind size.
    let fits = c.if-room-size.false in
    subst (λ (room : Option ℕ). IsTold (value_told (Some member) room) (Refused 8)) (sym c.in-Some.is)
    (value-lacks member c.in-Some.room (omega (arith, fits, size)) (c.in-Err.ensures.empty p at member is))
