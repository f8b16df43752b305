use Rattle.std.proofs.Common.{ℕ, ap, sym, subst}
use Rattle.reg_model.specs.Causes.{State}
use Rattle.reg_callbacks.specs.Asking.{asks}
use Rattle.reg_callbacks.specs.Lists.{answers_of}
use Rattle.reg_calls.specs.Rooms.{due, TellsKey}
use Rattle.reg_model.specs.declared.call.Query.TheVariants.{EnumKey}
use Rattle.reg_calls.specs.Views.{Booked, state}
use Rattle.reg_calls.proofs.HiveInvariantLemmas.{ends_at, state-view}
use Rattle.reg_calls.proofs.hive_core.Core.read_subkey.Goals as goal

pub answer_subkey-requires-clause-keys : goal.answer_subkey-requires-clause-keys
answer_subkey-requires-clause-keys g c = c.self.invariant.2.known

pub returns : goal.returns
returns g c =
    let callbacks = asks (answers_of g.C.Callback.answers c.args.callbacks.now) in
    subst (λ (r : ℕ). TellsKey (due callbacks (state c.args.self.now.view) c.args.session (EnumKey c.args.handle c.args.index r)) c.answer_subkey.result c.args.room.now c.answer_subkey.new.room)
    c.size_in_32_bits.ensures
    (subst (λ (s : State). TellsKey (due callbacks s c.args.session (EnumKey c.args.handle c.args.index c.size_in_32_bits.result)) c.answer_subkey.result c.args.room.now c.answer_subkey.new.room)
    (sym (state-view _ c.self.invariant.2 (ap (λ (b : Booked). b.view) c.self.view_is)))
    (c.answer_subkey.ensures (ends_at c.self.inside.journal.base c.self.inside.journal.entries)))
