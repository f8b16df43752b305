use Rattle.std.proofs.Common.{refl, sym, subst, inl, inr}
use Rattle.reg_model.specs.declared.answer.AnswerBody.{AnswerBody}
use Rattle.reg_model.specs.declared.answer.AnswerBody.TheVariants.{Refused}
use Rattle.reg_calls.specs.Views.{IsTold}
use Rattle.reg_calls.proofs.enum_key.answer.Goals as goal

pub returns-in-Err : goal.returns-in-Err
returns-in-Err g c = λ n. inl (sym (c.in-Err.ensures.refused n c.args.index c.args.room))

pub returns-in-Some : goal.returns-in-Some
returns-in-Some g c = λ n.
    let a = c.in-Ok.ensures.asked in
    let child = c.in-Some.ensures a.0 a.1 in
    subst (λ (due : AnswerBody). IsTold due c.key_told.result) (sym (a.2 n c.args.index c.args.room _ (inr (child.0, refl)))) (c.key_told.ensures _ child.1)

pub returns-in-None : goal.returns-in-None
returns-in-None g c = λ n.
    let a = c.in-Ok.ensures.asked in
    inl (sym (a.2 n c.args.index c.args.room (Refused 259) (inl (c.in-None.ensures a.0 a.1, refl))))
