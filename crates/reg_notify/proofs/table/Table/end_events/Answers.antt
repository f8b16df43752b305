use Rattle.std.proofs.Common.{[], ◌∷◌, ◌++◌, refl, sym, ap, ◌∙◌, subst, append_assoc}
use Rattle.std.proofs.lemmas.List.{append-nil}
use Rattle.std.proofs.lemmas.Option.{MatchOption-at_none}
use Rattle.reg_model.specs.declared.notice.Reason.TheVariants.{Matched}
use Rattle.reg_notify.specs.Internal.Hits.{any_event}
use Rattle.reg_notify.specs.Internal.Firing.{if_passes}
use Rattle.reg_notify.specs.Internal.States.{Ends}
use Rattle.reg_notify.proofs.EndsSteps.{ends-never}
use Rattle.reg_notify.proofs.Removals.{one-event, no-events}
use Rattle.reg_notify.proofs.table.Table.end_events.Goals as goal

pub loop-event-init : goal.loop-event-init
loop-event-init c = record {
  done = [];
  whole = sym (append-nil _);
  ready = c.requires;
  ends = ends-never _ (any_event []) Matched c.args.self.now c.requires
      (λ e. refl);
}

pub loop-event-preserved : goal.loop-event-preserved
loop-event-preserved c =
    let seen = c.loop-event.invariant in
    let next = c.end_event.ensures in
    record {
      done = c.in-Some.event ∷ seen.done;
      whole = seen.whole ∙ ap (λ l. l ++ seen.done) c.in-Some.ensures.items ∙ append_assoc c.pop.new.self.items (c.in-Some.event ∷ []) seen.done;
      ready = next.ready;
      ends = one-event c.args.by c.in-Some.event seen.done c.args.self.now c.loop-event.self c.end_event.new.self seen.ends next;
    }

pub returns : goal.returns
returns c =
    let seen = c.loop-event.invariant in
    let none = no-events c.loop-event.events (MatchOption-at_none _ _ c.in_default.is c.pop.ensures.cases).0 in
    let all = seen.whole ∙ ap (λ l. l ++ seen.done) none in
    subst (λ l. Ends c.args.by (if_passes (any_event l) Matched) c.args.self.now c.loop-event.self) (sym all) seen.ends
