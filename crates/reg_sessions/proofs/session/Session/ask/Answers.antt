use Rattle.std.proofs.Common.{◌<◌, ℕ, length, subst, sym}
use Rattle.reg_journal.specs.Kept.{Seat}
use Rattle.reg_sessions.specs.Locked.{IsLawfulAnswer}
use Rattle.reg_sessions.specs.Sessions.{SessionState, seat_at, mark_at}
use Rattle.reg_sessions.proofs.SessionPlaces.{own-seat}
use Rattle.reg_sessions.proofs.session.Session.ask.Goals as goal

pub returns-clause-lawful : goal.returns-clause-lawful
returns-clause-lawful g c = λ stale.
    let within = subst (λ (s : SessionState). c.args.hive < length s.places) (sym c.self.view_is) c.requires.seat in
    subst (λ (s : SessionState). IsLawfulAnswer g.C.Callback.answers (seat_at c.args.hive s) (mark_at c.args.hive s) c.args.query.now c.ask.result) c.self.view_is
    (own-seat (λ (x : Seat) (m k : ℕ). IsLawfulAnswer g.C.Callback.answers x m c.args.query.now c.ask.result)
    c.self.inside.places.items c.args.hive c.self.inside.number c.index_mut.result.now within c.index_mut.ensures.value c.self.invariant
    (c.ask.ensures.lawful stale))
