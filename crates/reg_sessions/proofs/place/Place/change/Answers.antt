use Rattle.std.proofs.Common.{ℕ, subst, inl, arith}
use Rattle.reg_journal.specs.Kept.{seat}
use Rattle.reg_model.specs.declared.call.Change.{Change}
use Rattle.reg_sessions.specs.Locked.{IsLawfulReply, IsLawfulOrLacks}
use Rattle.reg_sessions.specs.Sessions.{PlaceState, seat_of}
use Rattle.reg_sessions.proofs.SparedCloses.{spared}
use Rattle.reg_sessions.proofs.place.Place.change.Goals as goal

pub returns-in_default-clause-lawful : goal.returns-in_default-clause-lawful
returns-in_default-clause-lawful g c = λ stale.
    subst (λ (p : PlaceState). IsLawfulOrLacks g.C.Callback.answers (seat_of p) p.mark p.handles c.args.moment c.args.change.now c.lack-reply.result) c.self.view_is
    (subst (λ (n : ℕ). IsLawfulOrLacks g.C.Callback.answers (seat c.self.inside.share.session n) c.self.inside.mark c.self.inside.handles c.args.moment c.args.change.now
    c.lack-reply.result)
    (let few = c.self.invariant.0 in omega (arith, few))
    (c.lack-reply.ensures.lawful stale c.self.inside.handles c.in_default.ensures.spared))

pub returns-in_default-clause-spared : goal.returns-in_default-clause-spared
returns-in_default-clause-spared g c = spared (returns-in_default-clause-lawful g c)

pub returns-clause-lawful : goal.returns-clause-lawful
returns-clause-lawful g c = λ stale. inl
    (subst (λ (p : PlaceState). IsLawfulReply g.C.Callback.answers (seat_of p) p.mark c.args.moment c.args.change.now c.change-reply.result) c.self.view_is
    (subst (λ (n : ℕ). IsLawfulReply g.C.Callback.answers (seat c.self.inside.share.session n) c.self.inside.mark c.args.moment c.args.change.now c.change-reply.result)
    (let few = c.self.invariant.0 in omega (arith, few))
    (subst (λ (x : Change). IsLawfulReply g.C.Callback.answers c.self.inside.share c.self.inside.mark c.args.moment x c.change-reply.result) c.in-Ok.ensures.copies.0
    (c.change-reply.ensures.lawful stale))))

pub returns-clause-spared : goal.returns-clause-spared
returns-clause-spared g c = spared (returns-clause-lawful g c)

pub returns-then-reply-ne0-clause-lawful : goal.returns-then-reply-ne0-clause-lawful
returns-then-reply-ne0-clause-lawful g c = λ stale. inl
    (subst (λ (p : PlaceState). IsLawfulReply g.C.Callback.answers (seat_of p) p.mark c.args.moment c.args.change.now c.change-reply.result) c.self.view_is
    (subst (λ (n : ℕ). IsLawfulReply g.C.Callback.answers (seat c.self.inside.share.session n) c.self.inside.mark c.args.moment c.args.change.now c.change-reply.result)
    (let few = c.self.invariant.0 in omega (arith, few))
    (subst (λ (x : Change). IsLawfulReply g.C.Callback.answers c.self.inside.share c.self.inside.mark c.args.moment x c.change-reply.result) c.in-Ok.ensures.copies.0
    (c.change-reply.ensures.lawful stale))))

pub returns-then-reply-ne0-clause-spared : goal.returns-then-reply-ne0-clause-spared
returns-then-reply-ne0-clause-spared g c = spared (returns-then-reply-ne0-clause-lawful g c)
