use Rattle.std.proofs.Common.{Option, sym, ap, ◌∙◌, subst, refl}
use Rattle.reg_heap.specs.Paths.{Member}
use Rattle.reg_model.specs.Replies.{value_told}
use Rattle.reg_model.specs.declared.answer.AnswerBody.{AnswerBody}
use Rattle.reg_tree.specs.ValueAnswers.{fitted_by}
use Rattle.reg_calls.specs.declared.query_value.ValueTold.{ValueTold}
use Rattle.reg_calls.specs.Rooms.{asked_of, TellsValue}
use Rattle.reg_calls.proofs.QueryAnswers.{found_as, found_not}
use Rattle.reg_calls.proofs.RoomsTold.{short-told, whole-told}
use Rattle.reg_calls.proofs.query_value.answer_into.Goals as goal

pub returns-in-Err : goal.returns-in-Err
returns-in-Err g c = λ n.
    subst (λ (due : AnswerBody). TellsValue due c.refused.result c.args.room.now c.args.room.now)
    (sym (c.in-Err.ensures.refused n (asked_of c.args.room.now))) (c.refused.ensures, refl)

pub returns-in_default : goal.returns-in_default
returns-in_default g c = λ n.
    let a = c.in-Ok.ensures.asked in
    let none = found_not _ _ (c.in_default.ensures.found a.0 a.1) in
    let asked = asked_of c.args.room.now in
    subst (λ (due : AnswerBody). TellsValue due c.refused-in_default.result c.args.room.now c.find_value_into.new.room)
    (sym (a.2 n asked ∙ ap (λ (o : Option Member). value_told o asked) none))
    (c.refused-in_default.ensures, c.find_value_into.ensures.room a.0 a.1 ∙ ap (λ (o : Option Member). fitted_by o c.args.room.now) none)

pub returns-then-is_short : goal.returns-then-is_short
returns-then-is_short g c = λ n.
    let a = c.in-Ok.ensures.asked in
    let found = found_as _ _ _ (c.in-Some.ensures.found a.0 a.1) in
    let asked = asked_of c.args.room.now in
    let room = c.find_value_into.ensures.room a.0 a.1 ∙ ap (λ (o : Option Member). fitted_by o c.args.room.now) found.is in
    let short = c.is_short.ensures.short c.if-is_short.true in
    let told : ValueTold = record { status = 234; kind = c.in-Some.value.kind; size = c.in-Some.value.size } in
    subst (λ (due : AnswerBody). TellsValue due told c.args.room.now c.find_value_into.new.room)
    (sym (a.2 n asked ∙ ap (λ (o : Option Member). value_told o asked) found.is))
    (short-told found.member c.args.room.now c.find_value_into.new.room _ _ found.kind found.size c.is_short.ensures.word room short.0 short.1)

pub returns : goal.returns
returns g c = λ n.
    let a = c.in-Ok.ensures.asked in
    let found = found_as _ _ _ (c.in-Some.ensures.found a.0 a.1) in
    let asked = asked_of c.args.room.now in
    let room = c.find_value_into.ensures.room a.0 a.1 ∙ ap (λ (o : Option Member). fitted_by o c.args.room.now) found.is in
    let told : ValueTold = record { status = 0; kind = c.in-Some.value.kind; size = c.in-Some.value.size } in
    subst (λ (due : AnswerBody). TellsValue due told c.args.room.now c.find_value_into.new.room)
    (sym (a.2 n asked ∙ ap (λ (o : Option Member). value_told o asked) found.is))
    (whole-told found.member c.args.room.now c.find_value_into.new.room _ _ found.kind found.size c.is_short.ensures.word room
    (c.is_short.ensures.enough c.if-is_short.false))
