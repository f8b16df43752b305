use Rattle.std.proofs.Common.{Option, length, sym, ap, ◌∙◌, subst, inl}
use Rattle.std.proofs.lemmas.Option.{same_Some}
use Rattle.reg_heap.specs.Paths.{Member}
use Rattle.reg_model.specs.Replies.{value_told}
use Rattle.reg_model.specs.declared.answer.AnswerBody.{AnswerBody}
use Rattle.reg_calls.specs.Views.{IsTold}
use Rattle.reg_calls.proofs.QueryAnswers.{found_as, found_not}
use Rattle.reg_calls.proofs.query_value.answer.Goals as goal

pub returns-in-Err : goal.returns-in-Err
returns-in-Err g c = λ n. inl (sym (c.in-Err.ensures.refused n c.args.room))

pub value_answer-requires-clause-value : goal.value_answer-requires-clause-value
value_answer-requires-clause-value g c =
    let a = c.in-Ok.ensures.asked in
    let found = found_as _ _ _ (c.in-Some.ensures a.0 a.1) in
    (a.0, a.1, found.within)

pub value_answer-requires-clause-size : goal.value_answer-requires-clause-size
value_answer-requires-clause-size g c = λ p at member is.
    let found = found_as _ _ _ (c.in-Some.ensures p at) in
    found.size ∙ ap (λ (m : Member). length m.bytes) (same_Some _ _ (sym found.at_index ∙ is))

pub returns-in-Some : goal.returns-in-Some
returns-in-Some g c = λ n.
    let a = c.in-Ok.ensures.asked in
    let found = found_as _ _ _ (c.in-Some.ensures a.0 a.1) in
    subst (λ (due : AnswerBody). IsTold due c.value_answer.result) (sym (a.2 n c.args.room))
    (subst (λ (o : Option Member). IsTold (value_told o c.args.room) c.value_answer.result) (sym found.is)
    (c.value_answer.ensures a.0 a.1 found.member found.at_index found.kind found.size))

pub returns-in-None : goal.returns-in-None
returns-in-None g c = λ n.
    let a = c.in-Ok.ensures.asked in
    inl (sym (a.2 n c.args.room ∙ ap (λ (o : Option Member). value_told o c.args.room) (found_not _ _ (c.in-None.ensures a.0 a.1))))
