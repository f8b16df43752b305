use Rattle.std.proofs.Common.{◌<◌, ℕ, length, subst, sym}
use Rattle.reg_journal.specs.Kept.{Seat}
use Rattle.reg_sessions.specs.Locked.{IsLawfulOrLacks}
use Rattle.reg_sessions.specs.Sessions.{SessionState, seat_at, mark_at, handles_at}
use Rattle.reg_sessions.proofs.SessionPlaces.{own-seat}
use Rattle.reg_sessions.proofs.SparedCloses.{spared}
use Rattle.reg_sessions.proofs.session.Session.change.Goals as goal

pub returns-clause-lawful : goal.returns-clause-lawful
returns-clause-lawful g c = λ stale.
    let within = subst (λ (s : SessionState). c.args.hive < length s.places) (sym c.self.view_is) c.requires.seat in
    subst (λ (s : SessionState). IsLawfulOrLacks g.C.Callback.answers (seat_at c.args.hive s) (mark_at c.args.hive s) (handles_at c.args.hive s) c.args.moment c.args.change.now
    c.change.result) c.self.view_is
    (own-seat (λ (x : Seat) (m k : ℕ). IsLawfulOrLacks g.C.Callback.answers x m k c.args.moment c.args.change.now c.change.result)
    c.self.inside.places.items c.args.hive c.self.inside.number c.index_mut.result.now within c.index_mut.ensures.value c.self.invariant
    (c.change.ensures.lawful stale))

pub returns-clause-spared : goal.returns-clause-spared
returns-clause-spared g c = spared (returns-clause-lawful g c)
