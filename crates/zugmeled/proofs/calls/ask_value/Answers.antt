use Rattle.std.proofs.Common.{refl, sym, ap, ◌∙◌, subst, Some}
use Rattle.reg_model.specs.declared.answer.AnswerBody.{AnswerBody}
use Rattle.reg_calls.specs.Rooms.{TellsValue}
use Rattle.zugmeled.proofs.Turns.{due-nothing, due-above, due-within}
use Rattle.zugmeled.proofs.calls.ask_value.Goals as goal

pub returns-in_default-clause-told : goal.returns-in_default-clause-told
returns-in_default-clause-told c =
    subst (λ (due : AnswerBody). TellsValue due c.refused.result c.args.room.now c.args.room.now) (sym (due-nothing _ _ _ c.in_default.ensures.hive))
    (c.refused.ensures, refl)

pub returns-then-session-ge-SESSIONS_LIMIT-clause-told : goal.returns-then-session-ge-SESSIONS_LIMIT-clause-told
returns-then-session-ge-SESSIONS_LIMIT-clause-told c =
    subst (λ (due : AnswerBody). TellsValue due c.refused-then-session-ge-SESSIONS_LIMIT.result c.args.room.now c.args.room.now)
    (sym (due-above _ _ _ _ c.in-Some.ensures.hive c.if-session-ge-SESSIONS_LIMIT.true)) (c.refused-then-session-ge-SESSIONS_LIMIT.ensures, refl)

pub returns-clause-told : goal.returns-clause-told
returns-clause-told c =
    subst (λ (due : AnswerBody). TellsValue due c.read_value-told.result c.args.room.now c.read_value-told.new.room)
    (sym (due-within _ _ _ _ (ap Some c.deref.ensures ∙ c.in-Some.ensures.hive) c.if-session-ge-SESSIONS_LIMIT.false)) c.read_value-told.ensures.told
