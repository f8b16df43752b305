use Rattle.std.proofs.Common.{ℕ, subst, arith}
use Rattle.reg_journal.specs.Kept.{seat}
use Rattle.reg_sessions.specs.Locked.{IsLawfulAnswer}
use Rattle.reg_sessions.specs.Sessions.{PlaceState, seat_of}
use Rattle.reg_sessions.proofs.place.Place.ask.Goals as goal

pub returns-then-status_of-eq0-clause-lawful : goal.returns-then-status_of-eq0-clause-lawful
returns-then-status_of-eq0-clause-lawful g c = λ other.
    subst (λ (p : PlaceState). IsLawfulAnswer g.C.Callback.answers (seat_of p) p.mark c.args.query.now c.ask-answer.result) c.self.view_is
    (subst (λ (n : ℕ). IsLawfulAnswer g.C.Callback.answers (seat c.self.inside.share.session n) c.self.inside.mark c.args.query.now c.ask-answer.result) (let few = c.self.invariant.0 in omega (arith, few))
    (c.ask-answer.ensures.lawful other))

pub returns-else-status_of-eq0-clause-lawful : goal.returns-else-status_of-eq0-clause-lawful
returns-else-status_of-eq0-clause-lawful g c = λ other.
    subst (λ (p : PlaceState). IsLawfulAnswer g.C.Callback.answers (seat_of p) p.mark c.args.query.now c.ask-answer.result) c.self.view_is
    (subst (λ (n : ℕ). IsLawfulAnswer g.C.Callback.answers (seat c.self.inside.share.session n) c.self.inside.mark c.args.query.now c.ask-answer.result) (let few = c.self.invariant.0 in omega (arith, few))
    (c.ask-answer.ensures.lawful other))
