use Rattle.std.proofs.Common.{ℕ, ap, sym, subst, ◌∙◌}
use Rattle.reg_model.specs.Causes.{State, change_cause}
use Rattle.reg_model.specs.Callbacks.{change_status}
use Rattle.reg_callbacks.specs.Asking.{asks}
use Rattle.reg_callbacks.specs.Lists.{answers_of}
use Rattle.reg_calls.specs.declared.store.JournalEnd.{JournalEnd}
use Rattle.reg_calls.specs.Internal.Stores.{IsReady, at}
use Rattle.reg_calls.specs.Views.{Booked, state}
use Rattle.reg_calls.proofs.HiveInvariantLemmas.{end-is, ready-kept, state-view}
use Rattle.reg_calls.proofs.hive_core.Core.cause.Goals as goal

pub cause-requires-clause-ready : goal.cause-requires-clause-ready
cause-requires-clause-ready g c =
    let end = end-is c.end_of-end.result _ _ c.end_of-end.ensures.kept c.end_of-end.ensures.next in
    subst (λ (n : JournalEnd). IsReady n c.self.inside.store) (sym end) (ready-kept c.self.invariant.2)

pub returns : goal.returns
returns g c =
    let store = c.self.inside.store in
    let end = end-is c.end_of-end.result _ _ c.end_of-end.ensures.kept c.end_of-end.ensures.next in
    let is = state-view _ c.self.invariant.2 (ap (λ (b : Booked). b.view) c.self.view_is) ∙ ap (λ (n : JournalEnd). at n store) (sym end) in
    let callbacks = asks (answers_of g.C.Callback.answers c.args.callbacks.now) in
    c.cause.ensures
    ∙ (ap (λ (s : State). change_cause s c.session.result c.args.change.now (change_status callbacks s.world c.session.result c.args.moment c.args.change.now)) (sym is)
    ∙ ap (λ (n : ℕ). change_cause (state c.args.self.now.view) n c.args.change.now
    (change_status callbacks (state c.args.self.now.view).world n c.args.moment c.args.change.now)) c.session.ensures.session)
