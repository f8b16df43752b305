use Rattle.std.proofs.Common.{ℕ, List, Option, sym, ap, ◌∙◌, subst}
use Rattle.reg_model.specs.Worlds.{path_at}
use Rattle.reg_model.specs.declared.call.Call.TheVariants as call
use Rattle.reg_model.specs.declared.call.Query.{Query}
use Rattle.reg_model.specs.declared.call.Query.TheVariants.{QueryValue}
use Rattle.reg_callbacks.specs.Asking.{asks}
use Rattle.reg_callbacks.specs.Lists.{answers_of}
use Rattle.reg_calls.specs.Internal.RoomQuestions.{AsksValue}
use Rattle.reg_calls.specs.Internal.Stores.{at}
use Rattle.reg_calls.specs.Rooms.{asked_of, due, due_by, TellsValue}
use Rattle.reg_calls.proofs.store.Store.answer_value.Goals as goal

pub returns : goal.returns
returns g c = λ end.
    let callbacks = asks (answers_of g.C.Callback.answers c.args.callbacks.now) in
    let path = path_at c.args.session c.in-QueryValue.handle c.args.self.now.handles.handles in
    let asked = subst (λ (q : Query). AsksValue q c.args.room.now) c.in-QueryValue.is c.requires.value in
    let is = c.in-QueryValue.is ∙ ap (λ (r : Option ℕ). QueryValue c.in-QueryValue.handle c.in-QueryValue.name r) asked in
    subst (λ (q : Query). TellsValue (due callbacks (at end c.args.self.now) c.args.session q) c.answer_into.result c.args.room.now c.answer_into.new.room) (sym is)
    (subst (λ (q : Query). TellsValue (due_by (callbacks c.args.session 0 path (call.Query q)) (at end c.args.self.now) c.args.session
    (QueryValue c.in-QueryValue.handle c.in-QueryValue.name (asked_of c.args.room.now))) c.answer_into.result c.args.room.now c.answer_into.new.room) is
    (subst (λ (n : List ℕ). TellsValue (due_by (callbacks c.args.session 0 path (call.Query c.args.query.now)) (at end c.args.self.now) c.args.session
    (QueryValue c.in-QueryValue.handle n (asked_of c.args.room.now))) c.answer_into.result c.args.room.now c.answer_into.new.room)
    c.as_slice.ensures (c.answer_into.ensures end)))
