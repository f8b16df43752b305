use Rattle.std.proofs.Common.{refl, sym, subst, inl, inr}
use Rattle.reg_model.specs.declared.answer.AnswerBody.{AnswerBody}
use Rattle.reg_model.specs.declared.answer.AnswerBody.TheVariants.{Refused}
use Rattle.reg_calls.specs.Rooms.{size_of, TellsKey}
use Rattle.reg_calls.proofs.enum_key.answer_into.Goals as goal

pub returns-in-Err : goal.returns-in-Err
returns-in-Err g c = λ n.
    subst (λ (due : AnswerBody). TellsKey due c.refused.result c.args.room.now c.args.room.now)
    (sym (c.in-Err.ensures.refused n c.args.index (size_of c.args.room.now))) (c.refused.ensures, refl)

pub returns-in-Some : goal.returns-in-Some
returns-in-Some g c = λ n.
    let a = c.in-Ok.ensures.asked in
    let child = c.in-Some.ensures a.0 a.1 in
    subst (λ (due : AnswerBody). TellsKey due c.tell_key.result c.args.room.now c.tell_key.new.room)
    (sym (a.2 n c.args.index (size_of c.args.room.now) _ (inr (child.0, refl)))) (c.tell_key.ensures _ child.1)

pub returns-in-None : goal.returns-in-None
returns-in-None g c = λ n.
    let a = c.in-Ok.ensures.asked in
    subst (λ (due : AnswerBody). TellsKey due c.refused-in-None.result c.args.room.now c.args.room.now)
    (sym (a.2 n c.args.index (size_of c.args.room.now) (Refused 259) (inl (c.in-None.ensures a.0 a.1, refl)))) (c.refused-in-None.ensures, refl)
