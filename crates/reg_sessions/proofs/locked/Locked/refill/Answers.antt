use Rattle.std.proofs.Common.{ℕ, List, length, ap, subst, sym, ◌∙◌}
use Rattle.reg_calls.specs.HiveView.{view_of}
use Rattle.reg_sessions.specs.Locked.{Held, booked_of}
use Rattle.reg_sessions.specs.Internal.Moved.{AreHandedOut}
use Rattle.reg_sessions.proofs.HeldHives.{callbacks_kept}
use Rattle.reg_sessions.proofs.Rings.{admitted_moved, one_moved}
use Rattle.reg_sessions.proofs.locked.Locked.refill.Goals as goal

pub refill_of-requires : goal.refill_of-requires
refill_of-requires g c = c.self.invariant.1

pub invariant_of-self : goal.invariant_of-self
invariant_of-self g c = (
  admitted_moved (booked_of c.self.inside.hive) (booked_of c.refill_of.new.hive) c.self.invariant.0 (one_moved c.args.session _ _ c.refill_of.ensures.moved)
      c.refill_of.ensures.noted,
  c.refill_of.ensures.ahead,
  c.refill_of.ensures.lines ∙ c.self.invariant.2 ∙ sym (ap (λ (l : List ℕ). length l) c.refill_of.ensures.noted),
)

pub returns-clause-moved : goal.returns-clause-moved
returns-clause-moved g c = subst (λ (b : Held). AreHandedOut c.args.session b.view (view_of c.refill_of.new.hive)) c.self.view_is c.refill_of.ensures.moved

pub returns-clause-noted : goal.returns-clause-noted
returns-clause-noted g c = c.refill_of.ensures.noted ∙ ap (λ (b : Held). b.noted) c.self.view_is

pub returns-clause-callbacks : goal.returns-clause-callbacks
returns-clause-callbacks g c = callbacks_kept c.self.inside.lines.items c.refill_of.new.lines.items c.self.inside.hive c.refill_of.new.hive c.refill_of.ensures.callbacks c.self.view_is
