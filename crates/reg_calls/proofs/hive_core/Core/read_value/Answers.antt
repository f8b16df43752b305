use Rattle.std.proofs.Common.{ℕ, Option, ap, sym, subst}
use Rattle.reg_model.specs.Causes.{State}
use Rattle.reg_callbacks.specs.Asking.{asks}
use Rattle.reg_callbacks.specs.Lists.{answers_of}
use Rattle.reg_calls.specs.Rooms.{due, TellsValue}
use Rattle.reg_model.specs.declared.call.Query.TheVariants.{QueryValue}
use Rattle.reg_calls.specs.Views.{Booked, state}
use Rattle.reg_calls.proofs.HiveInvariantLemmas.{ends_at, state-view}
use Rattle.reg_calls.proofs.hive_core.Core.read_value.Goals as goal

pub answer_value-requires-clause-keys : goal.answer_value-requires-clause-keys
answer_value-requires-clause-keys g c = c.self.invariant.2.known

pub returns : goal.returns
returns g c =
    let callbacks = asks (answers_of g.C.Callback.answers c.args.callbacks.now) in
    subst (λ (r : Option ℕ). TellsValue (due callbacks (state c.args.self.now.view) c.args.session (QueryValue c.args.handle c.args.name r)) c.answer_value.result c.args.room.now c.answer_value.new.room)
    c.asked_room.ensures
    (subst (λ (s : State). TellsValue (due callbacks s c.args.session (QueryValue c.args.handle c.args.name c.asked_room.result)) c.answer_value.result c.args.room.now c.answer_value.new.room)
    (sym (state-view _ c.self.invariant.2 (ap (λ (b : Booked). b.view) c.self.view_is)))
    (c.answer_value.ensures (ends_at c.self.inside.journal.base c.self.inside.journal.entries)))
