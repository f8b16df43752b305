use Rattle.std.proofs.Common.{ℕ, sym, ap, ◌∙◌, subst}
use Rattle.reg_model.specs.Worlds.{path_at}
use Rattle.reg_model.specs.declared.call.Call.TheVariants as call
use Rattle.reg_model.specs.declared.call.Query.{Query}
use Rattle.reg_model.specs.declared.call.Query.TheVariants.{EnumKey}
use Rattle.reg_callbacks.specs.Asking.{asks}
use Rattle.reg_callbacks.specs.Lists.{answers_of}
use Rattle.reg_calls.specs.Internal.RoomQuestions.{AsksKey}
use Rattle.reg_calls.specs.Internal.Stores.{at}
use Rattle.reg_calls.specs.Rooms.{size_of, due, due_by, TellsKey}
use Rattle.reg_calls.proofs.store.Store.answer_subkey.Goals as goal

pub returns : goal.returns
returns g c = λ end.
    let callbacks = asks (answers_of g.C.Callback.answers c.args.callbacks.now) in
    let path = path_at c.args.session c.in-EnumKey.handle c.args.self.now.handles.handles in
    let asked = subst (λ (q : Query). AsksKey q c.args.room.now) c.in-EnumKey.is c.requires.subkey in
    let is = c.in-EnumKey.is ∙ ap (λ (r : ℕ). EnumKey c.in-EnumKey.handle c.in-EnumKey.index r) asked in
    subst (λ (q : Query). TellsKey (due callbacks (at end c.args.self.now) c.args.session q) c.answer_into.result c.args.room.now c.answer_into.new.room) (sym is)
    (subst (λ (q : Query). TellsKey (due_by (callbacks c.args.session 0 path (call.Query q)) (at end c.args.self.now) c.args.session
    (EnumKey c.in-EnumKey.handle c.in-EnumKey.index (size_of c.args.room.now))) c.answer_into.result c.args.room.now c.answer_into.new.room) is
    (c.answer_into.ensures end))
