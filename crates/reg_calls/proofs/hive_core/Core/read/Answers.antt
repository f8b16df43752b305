use Rattle.std.proofs.Common.{ap, sym, subst}
use Rattle.reg_model.specs.Causes.{State}
use Rattle.reg_callbacks.specs.Asking.{asks}
use Rattle.reg_callbacks.specs.Lists.{answers_of}
use Rattle.reg_calls.specs.Views.{Booked, IsRead}
use Rattle.reg_calls.proofs.HiveInvariantLemmas.{ends_at, state-view}
use Rattle.reg_calls.proofs.hive_core.Core.read.Goals as goal

pub answer-body-requires : goal.answer-body-requires
answer-body-requires g c = c.self.invariant.2.known

pub returns-clause-body : goal.returns-clause-body
returns-clause-body g c =
    subst (λ (s : State). IsRead (asks (answers_of g.C.Callback.answers c.args.callbacks.now)) s c.args.session c.args.query.now c.answer-body.result)
    (sym (state-view _ c.self.invariant.2 (ap (λ (b : Booked). b.view) c.self.view_is)))
    (c.answer-body.ensures (ends_at c.self.inside.journal.base c.self.inside.journal.entries))
