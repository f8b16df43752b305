use Rattle.std.proofs.Common.{◌≡◌, ◌≤◌, ◌∙◌, ℕ, List, Some, length, ap, subst, sym, arith}
use Rattle.reg_calls.specs.HiveView.{view_of}
use Rattle.reg_calls.specs.Views.{View, Booked, IsAccepted, next_of}
use Rattle.reg_sessions.specs.Locked.{Held, booked_of}
use Rattle.reg_sessions.proofs.Admitted.{admitted-changed, accepted, number-told, count-within, counted-more, left, lawful, not-behind}
use Rattle.reg_sessions.proofs.HeldHives.{callbacks_kept, same_held}
use Rattle.reg_sessions.proofs.Rings.{admitted_moved, sent_changed, quiet_changed}
use Rattle.reg_sessions.proofs.locked.Locked.change.Goals as goal

pub push_told-requires-clause-sent : goal.push_told-requires-clause-sent
push_told-requires-clause-sent g c = sent_changed c.self.inside.lines.items c.apply-reply.ensures.answered c.self.invariant.0 c.self.invariant.1

pub push_told-requires-clause-quiet : goal.push_told-requires-clause-quiet
push_told-requires-clause-quiet g c = λ still.
    quiet_changed c.self.inside.lines.items c.apply-reply.ensures.answered c.self.invariant.0 c.self.invariant.1
    (let before = c.pending-pending.ensures.number in omega (arith, still, before))

pub invariant_of-self : goal.invariant_of-self
invariant_of-self g c = (
  admitted_moved (booked_of c.apply-reply.new.hive) (booked_of c.push_told.new.hive) (admitted-changed c.apply-reply.ensures.answered c.self.invariant.0) c.push_told.ensures.moved
      c.push_told.ensures.noted,
  c.push_told.ensures.ahead,
  c.push_told.ensures.lines ∙ c.self.invariant.2 ∙ sym (ap (λ (l : List ℕ). length l) (c.push_told.ensures.noted ∙ c.apply-reply.ensures.answered.noted)),
)

pub returns-clause-noted : goal.returns-clause-noted
returns-clause-noted g c = c.push_told.ensures.noted ∙ c.apply-reply.ensures.answered.noted ∙ ap (λ (b : Held). b.noted) c.self.view_is

pub returns-clause-accepted : goal.returns-clause-accepted
returns-clause-accepted g c = λ z. (
  view_of c.apply-reply.new.hive,
  subst (λ (b : Held). IsAccepted b.view (view_of c.apply-reply.new.hive) c.args.share.now.session c.args.moment c.args.change c.apply-reply.result) c.self.view_is
      (accepted c.apply-reply.ensures.answered z).1,
  c.push_told.ensures.moved,
)

pub returns-clause-number : goal.returns-clause-number
returns-clause-number g c = λ z.
    subst (λ (b : Held). c.apply-reply.result.number ≡ Some (next_of b.view)) c.self.view_is (number-told (accepted c.apply-reply.ensures.answered z).1)

pub returns-clause-later : goal.returns-clause-later
returns-clause-later g c = λ z. (
  subst (λ (b : Held). c.args.share.now.count ≤ next_of b.view) c.self.view_is (count-within _ _ c.self.invariant.0 (accepted c.apply-reply.ensures.answered z).0),
  not-behind c.is_behind.result _ _ c.is_behind.ensures.behind.1 c.if-is_behind.false,
)

pub returns-clause-counted : goal.returns-clause-counted
returns-clause-counted g c = λ z. counted-more c.apply-reply.ensures.answered z

pub returns-clause-callbacks : goal.returns-clause-callbacks
returns-clause-callbacks g c =
    callbacks_kept c.self.inside.lines.items c.push_told.new.lines.items c.self.inside.hive c.push_told.new.hive (c.push_told.ensures.callbacks ∙ c.apply-reply.ensures.callbacks) c.self.view_is

pub returns-clause-refused : goal.returns-clause-refused
returns-clause-refused g c = λ other.
    let same = left c.apply-reply.ensures.answered other in
    let view = ap (λ (b : Booked). b.view) same.0 in
    let noted = ap (λ (b : Booked). b.noted) same.0 in
    let as_many = ap (λ (v : View). length v.watches.pending) view in
    let before = c.pending-pending.ensures.number in
    let still = c.push_told.ensures.still (omega (arith, as_many, before)) in (
      same_held c.push_told.new.lines.items c.self.inside.lines.items c.push_told.new.hive c.self.inside.hive (still.0 ∙ view) (c.push_told.ensures.noted ∙ noted) still.1
          (c.push_told.ensures.callbacks ∙ c.apply-reply.ensures.callbacks)
          ∙ c.self.view_is,
      same.1,
    )

pub returns-clause-lawful : goal.returns-clause-lawful
returns-clause-lawful g c =
    lawful g.C.Callback.answers c.self.inside.hive _ _ _ c.args.mark _ _ _ c.apply-reply.ensures.answered c.self.invariant.0
    (subst (λ (b : Held). c.args.mark ≤ next_of b.view) (sym c.self.view_is) (not-behind c.is_behind.result _ _ c.is_behind.ensures.behind.1 c.if-is_behind.false))
